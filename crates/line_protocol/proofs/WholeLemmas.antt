-- Each text is read: it is a batch, or it has a fault.
use Rattle.std.proofs.Common.{◌≡◌, ◌≢◌, ℕ, zero, suc, ◌+◌, ◌<◌, ◌≤◌, Bool, true, false, cond, ◌⊎◌, inl, inr, ⊎_elim, Option, Some, None, Result, Ok, Err, List, [], ◌∷◌, length, get_or, ℤ, refl, sym, ap, subst, ◌∙◌, Ordering, arith}
use Rattle.std.specs.declared.cmp.Ordering.TheVariants.{Less, Equal, Greater}
use Rattle.std.specs.Bool.{MatchBool}
use Rattle.std.specs.Option.{MatchOption}
use Rattle.std.specs.Ordering.{is_eq, ordering_reverse}
use Rattle.std.specs.List.{sum_by}
use Rattle.std.specs.List.Sorted.{IsPermutation}
use Rattle.std.specs.Str.{bytes_eq}
use Rattle.std.proofs.lemmas.Bool.{cases_lt}
use Rattle.std.proofs.lemmas.Cmp.{nat_list_cmp_total}
use Rattle.std.proofs.lemmas.List.Sorted.{sum_by-IsPermutation, IsPermutation-refl, IsPermutation-sym, IsPermutation-trans, IsPermutation-cons, IsPermutation-middle}
use Rattle.std.proofs.lemmas.List.Sums.{sum_by-cons}
use Rattle.std.proofs.lemmas.Slice.Eq.{bytes_eq-Decides}
use Rattle.std.proofs.lemmas.Map.Text.{is_eq-slice_cmp}
use Rattle.tsdb_types.specs.Series.{Ascend, KeysDiffer, IsKeyOf, series_text}
use Rattle.tsdb_types.specs.declared.point.Point.{Point}
use Rattle.tsdb_types.specs.declared.tag.Tag.{Tag}
use Rattle.line_protocol.specs.declared.fault.LineCode.{LineCode}
use Rattle.line_protocol.specs.declared.fault.LineCode.TheVariants.{DuplicateTag, NoField, NoPoints, BatchTooLong}
use Rattle.line_protocol.specs.Batches.{At, Points, IsTooLong, lines_of, line_count, points_before, Follows, LinesAre, TextIs, Lines, IsFault}
use Rattle.line_protocol.specs.Heads.{head_code, measurement_of, tags_of, has_time_tag}
use Rattle.line_protocol.specs.Kinds.{Seen, nothing_seen}
use Rattle.line_protocol.specs.Lines.{Read, rest_of, head_of, fields_text, time_text, is_skipped, FieldsAre, TagsAre, LineIs}
use Rattle.line_protocol.specs.Once.{Readable}
use Rattle.line_protocol.specs.Parts.{trimmed}
use Rattle.line_protocol.proofs.BatchLemmas.{same}
use Rattle.line_protocol.proofs.OrderLemmas.{order, Below, Chain, below-lower, absent, has_key, key-of, one, one-picked}
use Rattle.line_protocol.proofs.PartLemmas.{decided}

-- tags in the one order that ascends
record Arranged (tags : List Tag) : Type 0 where
  sorted : List Tag
  moved : IsPermutation tags sorted
  chain : Chain sorted

-- a tag among others that ascend
record Placed (tag : Tag) (tags : List Tag) : Type 0 where
  sorted : List Tag
  moved : IsPermutation (tag ∷ tags) sorted
  chain : Chain sorted
  below : (key : List ℕ) → order key tag.key ≡ Less → Below key tags → Below key sorted

swapped : (tag next : Tag) (tags : List Tag) → IsPermutation (tag ∷ next ∷ tags) (next ∷ tag ∷ tags)
swapped tag next tags = IsPermutation-sym (next ∷ tag ∷ tags) (tag ∷ next ∷ tags) (IsPermutation-middle (next ∷ []) tag tags)

-- the tag has its place, or its key stands among the others already
placed : (tag : Tag) (tags : List Tag) → Chain tags → Placed tag tags ⊎ (1 ≤ sum_by (one (has_key tag.key)) tags)
placed tag [] chain = inl (record { sorted = tag ∷ []; moved = IsPermutation-refl (tag ∷ []); chain = (tt, tt); below = λ key less below. (less, tt) })
placed tag (next ∷ tags) chain =
    let P : Ordering → Type 0 = λ o. order tag.key next.key ≡ o → Placed tag (next ∷ tags) ⊎ (1 ≤ sum_by (one (has_key tag.key)) (next ∷ tags)) in
    (elim (order tag.key next.key) as P [
      | Less ↦ λ e. inl (record {
        sorted = tag ∷ next ∷ tags;
        moved = IsPermutation-refl (tag ∷ next ∷ tags);
        chain = ((e, below-lower tag.key next.key tags e chain.0), chain);
        below = λ key less below. (less, below);
      })
      | Equal ↦ λ e.
          let tied : bytes_eq tag.key next.key ≡ true = sym (is_eq-slice_cmp tag.key next.key) ∙ ap is_eq e in
          let key = (bytes_eq-Decides tag.key next.key).0 tied in
          let here = one-picked (has_key tag.key) next ((bytes_eq-Decides next.key tag.key).1 (sym key)) in
          inr (omega (arith, here, sum_by-cons (one (has_key tag.key)) next tags))
      | Greater ↦ λ e.
          let back : order next.key tag.key ≡ Less = nat_list_cmp_total.antisymm next.key tag.key ∙ ap ordering_reverse e in
          ⊎_elim
          (λ (rest : Placed tag tags).
          let there : Placed tag (next ∷ tags) ⊎ (1 ≤ sum_by (one (has_key tag.key)) (next ∷ tags)) = inl (record {
            sorted = next ∷ rest.sorted;
            moved = IsPermutation-trans (tag ∷ next ∷ tags) (next ∷ tag ∷ tags) (next ∷ rest.sorted) (swapped tag next tags) (IsPermutation-cons next (tag ∷ tags) rest.sorted rest.moved);
            chain = (rest.below next.key back chain.0, rest.chain);
            below = λ key less below. (below.0, rest.below key less below.1);
          }) in
          there)
          (λ (twice : 1 ≤ sum_by (one (has_key tag.key)) tags).
          let there : Placed tag (next ∷ tags) ⊎ (1 ≤ sum_by (one (has_key tag.key)) (next ∷ tags)) = inr (omega (arith, twice, sum_by-cons (one (has_key tag.key)) next tags)) in
          there)
          (placed tag tags chain.1)
    ]) refl

differ-rest : (tag : Tag) (tags : List Tag) → KeysDiffer (tag ∷ tags) → KeysDiffer tags
differ-rest tag tags differ = λ key.
    let most : sum_by (one (has_key key)) (tag ∷ tags) ≤ 1 = differ key in
    omega (arith, most, sum_by-cons (one (has_key key)) tag tags)

differ-never : (tag : Tag) (tags : List Tag) → 1 ≤ sum_by (one (has_key tag.key)) tags → KeysDiffer (tag ∷ tags) → ⊥
differ-never tag tags twice differ =
    let most : sum_by (one (has_key tag.key)) (tag ∷ tags) ≤ 1 = differ tag.key in
    let here = one-picked (has_key tag.key) tag ((bytes_eq-Decides tag.key tag.key).1 refl) in
    absurd (omega (arith, most, here, twice, sum_by-cons (one (has_key tag.key)) tag tags))

-- tags have their order, or two of them have one key
arranged : (tags : List Tag) → Arranged tags ⊎ ¬ (KeysDiffer tags)
arranged [] = inl (record { sorted = []; moved = IsPermutation-refl []; chain = tt })
arranged (tag ∷ tags) =
    ⊎_elim
    (λ (rest : Arranged tags).
    let moved = IsPermutation-cons tag tags rest.sorted rest.moved in
    ⊎_elim
    (λ (here : Placed tag rest.sorted).
    let there : Arranged (tag ∷ tags) ⊎ ¬ (KeysDiffer (tag ∷ tags)) = inl (record {
      sorted = here.sorted;
      moved = IsPermutation-trans (tag ∷ tags) (tag ∷ rest.sorted) here.sorted moved here.moved;
      chain = here.chain;
    }) in
    there)
    (λ (twice : 1 ≤ sum_by (one (has_key tag.key)) rest.sorted).
    let kept = sum_by-IsPermutation (one (has_key tag.key)) tags rest.sorted rest.moved in
    let there : Arranged (tag ∷ tags) ⊎ ¬ (KeysDiffer (tag ∷ tags)) = inr (differ-never tag tags (omega (arith, twice, kept))) in
    there)
    (placed tag rest.sorted rest.chain))
    (λ (twice : ¬ (KeysDiffer tags)).
    let there : Arranged (tag ∷ tags) ⊎ ¬ (KeysDiffer (tag ∷ tags)) = inr (λ differ. twice (differ-rest tag tags differ)) in
    there)
    (arranged tags)

chain-count : (key : List ℕ) (tags : List Tag) → Chain tags → sum_by (one (has_key key)) tags ≤ 1
chain-count key [] chain = omega arith
chain-count key (tag ∷ tags) chain =
    ⊎_elim
    (λ (e : has_key key tag ≡ true).
    let none = absent (has_key key) tag.key (λ t f. key-of key t f ∙ sym (key-of key tag e)) tags chain.0 in
    omega (arith, none, one-picked (has_key key) tag e, sum_by-cons (one (has_key key)) tag tags))
    (λ (e : has_key key tag ≡ false).
    let no : one (has_key key) tag ≡ 0 = ap (λ (b : Bool). cond b 1 0) e in
    omega (arith, no, chain-count key tags chain.1, sum_by-cons (one (has_key key)) tag tags))
    (decided (has_key key tag))

arranged-differ : (tags : List Tag) → Arranged tags → KeysDiffer tags
arranged-differ tags is = λ key.
    let kept = sum_by-IsPermutation (one (has_key key)) tags is.sorted is.moved in
    let most = chain-count key is.sorted is.chain in
    subst (λ (n : ℕ). n ≤ 1) kept most

chain-step : (tag : Tag) (tags : List Tag) → Chain (tag ∷ tags) → (k : ℕ) (d : Tag) → k + 1 < length (tag ∷ tags) → order (get_or (tag ∷ tags) k d).key (get_or (tag ∷ tags) (k + 1) d).key ≡ Less
chain-step tag [] chain k d l = absurd (omega arith)
chain-step tag (next ∷ tags) chain zero d l = chain.0.0
chain-step tag (next ∷ tags) chain (suc k) d l =
    let e : suc (k + 1) ≡ suc k + 1 = omega arith in
    subst (λ (n : ℕ). order (get_or (next ∷ tags) k d).key (get_or (tag ∷ next ∷ tags) n d).key ≡ Less) e (chain-step next tags chain.1 k d (omega arith))

chain-ascend : (tags : List Tag) → Chain tags → Ascend tags
chain-ascend [] chain = λ k d l. absurd (omega arith)
chain-ascend (tag ∷ tags) chain = chain-step tag tags chain

-- different keys give a series its key
key-is : (measurement : List ℕ) (tags : List Tag) (is : Arranged tags) → IsKeyOf measurement tags (series_text measurement is.sorted)
key-is measurement tags is = record { sorted = is.sorted; same = is.moved; ascend = chain-ascend is.sorted is.chain; spelled = refl }

abbrev Reading : Type 0
Reading = Result Read LineCode

cons-some : (byte : ℕ) (text : List ℕ) → byte ∷ text ≡ [] → ⊥
cons-some byte text is = cc

empty-or-not : (text : List ℕ) → (text ≡ []) ⊎ (text ≢ [])
empty-or-not [] = inl refl
empty-or-not (byte ∷ text) = inr (λ is. cons-some byte text is)

-- some reading is that of the line
record HasReading (Is : Reading → Type 0) : Type 0 where
  read : Reading
  is : Is read

filled-is : (seen : Seen) (moment : ℤ) (line : List ℕ) → Arranged (tags_of (head_of line)) → HasReading (FieldsAre seen moment line)
filled-is seen moment line tags =
    let head = head_of line in
    let series = series_text (measurement_of head) tags.sorted in
    let reading = rest_of seen moment (measurement_of head) (has_time_tag (tags_of head)) series (fields_text line) (time_text line) in
    ⊎_elim
    (λ (none : fields_text line ≡ []). let none_is : HasReading (FieldsAre seen moment line) = record { read = Err NoField; is = inl (none, refl) } in none_is)
    (λ (some : fields_text line ≢ []).
    let some_is : HasReading (FieldsAre seen moment line) = record { read = reading; is = inr (some, series, key-is (measurement_of head) (tags_of head) tags, refl) } in
    some_is)
    (empty-or-not (fields_text line))

tags-are : (seen : Seen) (moment : ℤ) (line : List ℕ) → HasReading (TagsAre seen moment line)
tags-are seen moment line =
    ⊎_elim
    (λ (tags : Arranged (tags_of (head_of line))).
    let rest = filled-is seen moment line tags in
    let there : HasReading (TagsAre seen moment line) = record { read = rest.read; is = inr (arranged-differ (tags_of (head_of line)) tags, rest.is) } in
    there)
    (λ (twice : ¬ (KeysDiffer (tags_of (head_of line)))).
    let there : HasReading (TagsAre seen moment line) = record { read = Err DuplicateTag; is = inl (twice, refl) } in
    there)
    (arranged (tags_of (head_of line)))

abbrev HeadIs : Option LineCode → Seen → ℤ → List ℕ → Reading → Type 0
HeadIs code seen moment line read = MatchOption code (TagsAre seen moment line read) (λ c. read ≡ Err c)

head-is : (code : Option LineCode) (seen : Seen) (moment : ℤ) (line : List ℕ) → HasReading (HeadIs code seen moment line)
head-is None seen moment line = let rest = tags-are seen moment line in record { read = rest.read; is = rest.is }
head-is (Some code) seen moment line = record { read = Err code; is = refl }

abbrev SkippedIs : Bool → Seen → ℤ → List ℕ → Reading → Type 0
SkippedIs skipped seen moment line read = MatchBool skipped (read ≡ Ok (record { points = []; seen = seen })) (LineIs seen moment line read)

skipped-is : (skipped : Bool) (seen : Seen) (moment : ℤ) (line : List ℕ) → HasReading (SkippedIs skipped seen moment line)
skipped-is true seen moment line = record { read = Ok (record { points = []; seen = seen }); is = refl }
skipped-is false seen moment line = let rest = head-is (head_code (head_of line)) seen moment line in record { read = rest.read; is = rest.is }

-- the lines of a text are read to something
record HasPoints (Is : Points → Type 0) : Type 0 where
  read : Points
  is : Is read

follows-is : (number : ℕ) (read : Reading) (Others : Seen → Points → Type 0) → ((seen : Seen) → HasPoints (Others seen)) → HasPoints (Follows number read Others)
follows-is number (Ok first) Others others =
    let rest = others first.seen in
    record { read = points_before first.points rest.read; is = (rest.read, rest.is, refl) }
follows-is number (Err code) Others others = record { read = Err (record { code = code; line = number }); is = refl }

lines-are : (moment : ℤ) (lines : List (List ℕ)) (number : ℕ) (seen : Seen) → HasPoints (LinesAre moment lines number seen)
lines-are moment [] number seen = record { read = Ok []; is = refl }
lines-are moment (line ∷ lines) number seen =
    let first = skipped-is (is_skipped (trimmed line)) seen moment (trimmed line) in
    let rest = follows-is number first.read (LinesAre moment lines (number + 1)) (λ s. lines-are moment lines (number + 1) s) in
    record { read = rest.read; is = (first.read, first.is, rest.is) }

abbrev IsRead : List ℕ → ℤ → Type 0
IsRead text moment = ((points : List Point) × Lines text moment points) ⊎ ((at : At) × IsFault text moment at)

point-some : (point : Point) (points : List Point) → point ∷ points ≡ [] → ⊥
point-some point points is = cc

points-read : (text : List ℕ) (moment : ℤ) → ¬ (IsTooLong text) → (result : Points) → TextIs text moment result → IsRead text moment
points-read text moment fits (Ok []) is = inr (same NoPoints 0, inr (inr (fits, is, refl)))
points-read text moment fits (Ok (point ∷ points)) is = inl (point ∷ points, record { fits = fits; read = is; some = λ none. point-some point points none })
points-read text moment fits (Err at) is = inr (at, inr (inl (fits, is)))

text-read : (text : List ℕ) (moment : ℤ) → ¬ (IsTooLong text) → IsRead text moment
text-read text moment fits =
    let whole = lines-are moment (lines_of text) 1 nothing_seen in
    points-read text moment fits whole.read whole.is

too-long : (text : List ℕ) (moment : ℤ) → IsTooLong text → IsRead text moment
too-long text moment long = inr (same BatchTooLong 0, inl (long, refl))

long-or-not : (text : List ℕ) → IsTooLong text ⊎ ¬ (IsTooLong text)
long-or-not text =
    ⊎_elim
    (λ (l : 16777216 < length text). let there : IsTooLong text ⊎ ¬ (IsTooLong text) = inl (inl l) in there)
    (λ (l : length text ≤ 16777216).
    ⊎_elim
    (λ (m : 5000 < line_count text). let there : IsTooLong text ⊎ ¬ (IsTooLong text) = inl (inr m) in there)
    (λ (m : line_count text ≤ 5000).
    let there : IsTooLong text ⊎ ¬ (IsTooLong text) = inr (λ long. ⊎_elim (λ (a : 16777216 < length text). absurd (omega (arith, a, l))) (λ (b : 5000 < line_count text). absurd (omega (arith, b, m))) long) in
    there)
    (cases_lt 5000 (line_count text)))
    (cases_lt 16777216 (length text))

-- each text is a batch or has a fault
pub readable : Readable
readable text moment = ⊎_elim (λ (long : IsTooLong text). too-long text moment long) (λ (fits : ¬ (IsTooLong text)). text-read text moment fits) (long-or-not text)
