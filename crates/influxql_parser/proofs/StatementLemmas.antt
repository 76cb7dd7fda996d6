use Rattle.std.proofs.Common.{◌≡◌, ℕ, ℤ, ◌≤◌, ◌+◌, Bool, true, false, ◌&&◌, ◌||◌, Option, Some, None, List, [], ◌∷◌, length, arith, refl, sym, ap, subst, ◌∙◌}
use Rattle.std.proofs.lemmas.Bool.{false≢true}
use Rattle.std.specs.Prelude.{option_and_then, IfSome, IfNone, not}
use Rattle.std.specs.List.{list_any, list_all}
use Rattle.point_model.specs.Conditions as tags
use Rattle.point_model.specs.Deletions.{IsLoggable}
use Rattle.point_model.specs.declared.deletion.Deletion.{Deletion}
use Rattle.influxql_parser.specs.declared.chain.Asked.{Asked}
use Rattle.influxql_parser.specs.declared.facts.Facts.{Facts}
use Rattle.influxql_parser.specs.declared.fault.ReadFault.{ReadFault}
use Rattle.influxql_parser.specs.declared.fault.ReadFault.TheVariants.{Syntax, TimeInOr, NumberRange, Memory}
use Rattle.influxql_parser.specs.declared.piece.Piece.{Piece}
use Rattle.influxql_parser.specs.declared.piece.Piece.TheVariants as piece
use Rattle.influxql_parser.specs.declared.piece.Test.{Test}
use Rattle.influxql_parser.specs.declared.statement.Parts.{Parts}
use Rattle.influxql_parser.specs.declared.statement.Where.{Where}
use Rattle.influxql_parser.specs.Bounds.{lower_bound, upper_bound, lower_bound_of, upper_bound_of, greater_of, less_of, times_between}
use Rattle.influxql_parser.specs.Chains.{asked}
use Rattle.influxql_parser.specs.Deletions.{MeansDeletion, HasNoReading, IsRefusedFor, deletion_of, has_time_in_or, is_out_of_range, tags_of, tests_of, times_of}
use Rattle.influxql_parser.specs.Facts.{HasRoom, facts_from, nothing_told}
use Rattle.influxql_parser.specs.GrammarConditions.{Either, either_pieces, nests_within, tests_in, is_of_time}
use Rattle.influxql_parser.specs.GrammarDeletions.{DeletionText, is_of_tag_or_time}
use Rattle.influxql_parser.specs.Reads.{IsReadOf, IsReadWhere, HasNoCondition, IsOfPieces, IsReadFrom, IsMeantBy, IsFaultOf, IsShortEnough, meant_by}
use Rattle.influxql_parser.proofs.ShowLemmas.{none≢some, same-some}
use Rattle.influxql_parser.proofs.ConditionLemmas.{parse, parse-pieces, parse-written}
use Rattle.influxql_parser.proofs.ChainLemmas.{asked-by, asked_of, asks}
use Rattle.influxql_parser.proofs.RoomLemmas.{short-enough, none-short}

pub not-true : (b : Bool) → not b ≡ true → b ≡ false
not-true true is = absurd (false≢true is)
not-true false is = refl

pub not-false : (b : Bool) → not b ≡ false → b ≡ true
not-false true is = refl
not-false false is = absurd (false≢true (sym is))

-- what pieces tell is told by their comparisons
pub record FactsAre (tests : List Test) (facts : Facts) : Type 0 where
  pub allowed : facts.allowed ≡ list_all is_of_tag_or_time tests
  pub timed : facts.timed ≡ list_any is_of_time tests
  pub out_of_range : facts.out_of_range ≡ list_any is_out_of_range tests
  pub lower : facts.lower ≡ lower_bound tests
  pub upper : facts.upper ≡ upper_bound tests

pub facts-are : (ps : List Piece) → FactsAre (tests_in ps) (facts_from ps nothing_told)
facts-are [] = record { allowed = refl; timed = refl; out_of_range = refl; lower = refl; upper = refl }
facts-are (piece.Open ∷ ps) = let are = facts-are ps in record { allowed = are.allowed; timed = are.timed; out_of_range = are.out_of_range; lower = are.lower; upper = are.upper }
facts-are (piece.Close ∷ ps) = let are = facts-are ps in record { allowed = are.allowed; timed = are.timed; out_of_range = are.out_of_range; lower = are.lower; upper = are.upper }
facts-are (piece.Join j ∷ ps) = let are = facts-are ps in record { allowed = are.allowed; timed = are.timed; out_of_range = are.out_of_range; lower = are.lower; upper = are.upper }
facts-are (piece.Test t ∷ ps) = let are = facts-are ps in record {
  allowed = ap (λ (x : Bool). is_of_tag_or_time t && x) are.allowed;
  timed = ap (λ (x : Bool). is_of_time t || x) are.timed;
  out_of_range = ap (λ (x : Bool). is_out_of_range t || x) are.out_of_range;
  lower = ap (λ (x : Option ℤ). greater_of (lower_bound_of t) x) are.lower;
  upper = ap (λ (x : Option ℤ). less_of (upper_bound_of t) x) are.upper;
}

-- no condition has pieces that ask nothing
pub not-asked : (ps : List Piece) → asked ps ≡ None → HasNoCondition (IsOfPieces ps)
not-asked ps none c is =
    none≢some (asked_of c) (sym none ∙ asked-by ps ∙ ap (λ (o : Option Either). asks o) (ap (λ (t : List Piece). parse t) (sym is.same) ∙ parse-pieces c))

-- nor has one pieces that a deletion may not have, or that are nested too deep
pub not-allowed : (ps : List Piece) (facts : Facts) → facts ≡ facts_from ps nothing_told → facts.allowed ≡ false → HasNoCondition (IsOfPieces ps)
not-allowed ps facts are no_one c is =
    false≢true (sym no_one ∙ ap (λ (f : Facts). f.allowed) are ∙ (facts-are ps).allowed ∙ is.tested)

pub not-nested : (ps : List Piece) (within : Bool) → within ≡ nests_within 0 ps → within ≡ false → HasNoCondition (IsOfPieces ps)
not-nested ps within are no_one c is = false≢true (sym no_one ∙ are ∙ is.nested)

some-is : {A : Type 0} (x y : A) → Some x ≡ Some y → x ≡ y
some-is x y e = same-some (Some x) x y refl e

-- the condition that the pieces ask
pub asked-where : (ps : List Piece) (told : Where) (within : Bool) → Some told.asked ≡ asked ps → told.facts ≡ facts_from ps nothing_told → told.facts.allowed ≡ true →
    within ≡ nests_within 0 ps → within ≡ true → (told.fits ≡ true → HasRoom ps) → IsReadWhere (IsOfPieces ps) told
asked-where ps told within found facts_are allowed nests nested room = by (parse ps) refl
  where
    by : (o : Option Either) → parse ps ≡ o → IsReadWhere (IsOfPieces ps) told
    by None at = absurd (none≢some told.asked (sym (found ∙ asked-by ps ∙ ap (λ (o : Option Either). asks o) at)))
    by (Some c) at =
        let same : either_pieces c ≡ ps = parse-written ps c at in
        let asks_is : told.asked ≡ asked_of c = some-is told.asked (asked_of c) (found ∙ asked-by ps ∙ ap (λ (o : Option Either). asks o) at) in
        let are = facts-are ps in
        let tests : tests_in ps ≡ tests_in (either_pieces c) = ap (λ (t : List Piece). tests_in t) (sym same) in (
          c,
          record {
            same = same;
            nested = sym nests ∙ nested;
            tested = sym are.allowed ∙ sym (ap (λ (f : Facts). f.allowed) facts_are) ∙ allowed;
          },
          record {
            tags = ap (λ (a : Asked). a.tags) asks_is;
            faulty = ap (λ (a : Asked). a.faulty) asks_is;
            timed = ap (λ (f : Facts). f.timed) facts_are ∙ are.timed ∙ ap (λ (ts : List Test). list_any is_of_time ts) tests;
            out_of_range = ap (λ (f : Facts). f.out_of_range) facts_are ∙ are.out_of_range ∙ ap (λ (ts : List Test). list_any is_out_of_range ts) tests;
            lower = ap (λ (f : Facts). f.lower) facts_are ∙ are.lower ∙ ap (λ (ts : List Test). lower_bound ts) tests;
            upper = ap (λ (f : Facts). f.upper) facts_are ∙ are.upper ∙ ap (λ (ts : List Test). upper_bound ts) tests;
            room = λ fits. short-enough c (subst (λ (t : List Piece). HasRoom t) (sym same) (room fits));
          },
        )

abbrev pub asked_nothing : Asked
asked_nothing = record { tags = tags.True; faulty = false }

-- what is told where no condition stands
pub nothing-read : (told : Where) → told.asked ≡ asked_nothing → told.facts ≡ nothing_told → IsReadOf None told
nothing-read told asks facts = record {
  tags = ap (λ (a : Asked). a.tags) asks;
  faulty = ap (λ (a : Asked). a.faulty) asks;
  timed = ap (λ (f : Facts). f.timed) facts;
  out_of_range = ap (λ (f : Facts). f.out_of_range) facts;
  lower = ap (λ (f : Facts). f.lower) facts;
  upper = ap (λ (f : Facts). f.upper) facts;
  room = λ fits. none-short;
}

-- parts that are refused for nothing mean the deletion that the text means
abbrev deletion_with : List ℕ → tags.Condition → ℤ × ℤ → Deletion
deletion_with measurement condition times = record { measurement = measurement; tags = condition; from = times.0; to = times.1 }

meant-deletion : (Reads : DeletionText → Type 0) (parts : Parts) (read : IsReadFrom Reads parts) → meant_by parts ≡ deletion_of read.read
meant-deletion Reads parts read =
    ap (λ (m : List ℕ). deletion_with m parts.condition.asked.tags (times_between parts.condition.facts.lower parts.condition.facts.upper)) read.measurement
    ∙ ap (λ (t : tags.Condition). deletion_with read.read.measurement t (times_between parts.condition.facts.lower parts.condition.facts.upper)) read.condition.tags
    ∙ ap (λ (b : Option ℤ). deletion_with read.read.measurement (tags_of read.read.condition) (times_between b parts.condition.facts.upper)) read.condition.lower
    ∙ ap (λ (b : Option ℤ). deletion_with read.read.measurement (tags_of read.read.condition) (times_between (lower_bound (tests_of read.read.condition)) b)) read.condition.upper

pub means : (Reads : DeletionText → Type 0) (parts : Parts) (deletion : Deletion) → IsReadFrom Reads parts → IsMeantBy parts deletion → MeansDeletion Reads deletion
means Reads parts deletion read meant = record {
  read = read.read;
  reads = read.reads;
  times_apart = sym read.condition.faulty ∙ meant.apart;
  in_range = sym read.condition.out_of_range ∙ meant.in_range;
  means = meant.means ∙ meant-deletion Reads parts read;
}

pub loggable : (Reads : DeletionText → Type 0) (parts : Parts) (deletion : Deletion) → IsReadFrom Reads parts → IsMeantBy parts deletion → IsLoggable deletion
loggable Reads parts deletion read meant =
    let short : IsShortEnough (tags_of read.read.condition) = read.condition.room meant.fits in
    let asks : IsShortEnough parts.condition.asked.tags = subst (λ (t : tags.Condition). IsShortEnough t) (sym read.condition.tags) short in
    subst (λ (d : Deletion). IsLoggable d) (sym meant.means) (record {
      measurement = meant.short;
      texts = asks.texts;
      nested = asks.nested;
      fits = omega (arith, asks.fits, meant.short);
    })

pub refused : (Reads : DeletionText → Type 0) (parts : Parts) (fault : ReadFault) → IsReadFrom Reads parts → IsFaultOf parts fault → IsRefusedFor Reads fault
refused Reads parts Syntax read is = is
refused Reads parts TimeInOr read is = (read.read, read.reads, sym read.condition.faulty ∙ is)
refused Reads parts NumberRange read (apart, out) =
    (read.read, read.reads, sym read.condition.faulty ∙ apart, sym read.condition.out_of_range ∙ out)
refused Reads parts Memory read is = tt
