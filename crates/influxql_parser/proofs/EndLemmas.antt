-- What stands behind a piece is an end of the tokens.
use Rattle.std.proofs.Common.{◌≡◌, ℕ, ℤ, ◌+◌, ◌-◌, ◌≤◌, ◌<◌, Bool, true, false, cond, Option, Some, None, List, [], ◌∷◌, ◌++◌, length, drop, arith, refl, sym, ap, subst, ◌∙◌}
use Rattle.std.proofs.lemmas.List.{append_assoc, length-append, length-drop, drop-drop}
use Rattle.std.proofs.Math.Seq.{drop-append_seam}
use Rattle.std.proofs.Math.ListN.{drop_of_length-le}
use Rattle.std.specs.Prelude.{option_and_then}
use Rattle.std.specs.Option.{option_map_or}
use Rattle.std.specs.Str.{str_eq_ignore_ascii_case}
use Rattle.query_model.specs.declared.condition.Literal.{Literal}
use Rattle.query_model.specs.declared.condition.Literal.TheVariants as literal
use Rattle.query_model.specs.declared.condition.Op.{Op}
use Rattle.point_model.specs.declared.part.Join.TheVariants as join
use Rattle.influxql_parser.specs.declared.piece.Piece.{Piece}
use Rattle.influxql_parser.specs.declared.piece.Piece.TheVariants as piece
use Rattle.influxql_parser.specs.declared.piece.Test.TheVariants as test
use Rattle.influxql_parser.specs.declared.token.Symbol.{Symbol}
use Rattle.influxql_parser.specs.Tokens.{Token, Word, Quoted, Text, Number, Duration, Sign}
use Rattle.influxql_parser.specs.CivilTimes.{civil_time}
use Rattle.influxql_parser.specs.GrammarWords.{is_keyword, symbol_in, name_in, text_in, and_word, or_word, time_word, now_word, true_word, false_word}
use Rattle.influxql_parser.specs.GrammarPieces.{ArePieces, amount_at, base_at, change_in, in_range, is_close, is_minus, is_open, literal_at, literal_number, moment_at, name_test_at, now_at, op_in, piece_at, signed, signed_duration, sum_in_range, sums_at, time_op, time_test_at}
use Rattle.influxql_parser.proofs.PieceLemmas.{PiecesLeft, pieces-next, pieces-none, pieces-end}
use Rattle.influxql_parser.proofs.ShowLemmas.{none≢some}

-- these tokens stand at the end of those
abbrev pub Ends : List Token → List Token → Type 0
Ends rest ts = (front : List Token) × (ts ≡ front ++ rest)

ends-self : (ts : List Token) → Ends ts ts
ends-self ts = ([], refl)

ends-behind : (t : Token) (rest ts : List Token) → Ends rest ts → Ends rest (t ∷ ts)
ends-behind t rest ts (front, is) = (t ∷ front, ap (λ (us : List Token). t ∷ us) is)

ends-both : (rest mid ts : List Token) → Ends rest mid → Ends mid ts → Ends rest ts
ends-both rest mid ts (a, first) (b, second) = (b ++ a, second ∙ ap (λ (us : List Token). b ++ us) first ∙ sym (append_assoc b a rest))

moved : (t : Token) (ts us : List Token) → ts ≡ us → Ends us (t ∷ ts)
moved t ts us e = (t ∷ [], ap (λ (x : List Token). t ∷ x) e)

-- a value and what stands behind it
abbrev at-front : {A : Type 0} → A → List Token → Option (A × List Token)
at-front x ts = Some (x, ts)

abbrev rest-of : {A : Type 0} → List Token → Option (A × List Token) → List Token
rest-of d None = d
rest-of d (Some p) = p.1

same-rest : {A : Type 0} (x y : A) (ts us : List Token) → at-front x ts ≡ at-front y us → ts ≡ us
same-rest {A} x y ts us e = ap (λ (o : Option (A × List Token)). rest-of ts o) e

-- a value that is made of another one, and stands before the same tokens
mapped-rest : {A B : Type 0} (f : A → B) (o : Option A) (ts rest : List Token) (v : B) → option_and_then (λ (a : A). at-front (f a) ts) o ≡ at-front v rest → ts ≡ rest
mapped-rest f None ts rest v is = absurd (none≢some (v, rest) is)
mapped-rest f (Some a) ts rest v is = same-rest (f a) v ts rest is

chosen-rest : {A : Type 0} (b : Bool) (x v : A) (ts rest : List Token) → cond b (at-front x ts) None ≡ at-front v rest → ts ≡ rest
chosen-rest true x v ts rest is = same-rest x v ts rest is
chosen-rest false x v ts rest is = absurd (none≢some (v, rest) is)

amount-ends : (negative : Bool) (ts : List Token) (v : Option ℤ) (rest : List Token) → amount_at negative ts ≡ Some (v, rest) → Ends rest ts
amount-ends negative [] v rest is = absurd (none≢some (v, rest) is)
amount-ends negative (Number n ∷ ts) v rest is = moved (Number n) ts rest (same-rest (signed negative n) v ts rest is)
amount-ends negative (Duration n ∷ ts) v rest is = moved (Duration n) ts rest (same-rest (signed_duration negative n) v ts rest is)
amount-ends negative (Word w ∷ ts) v rest is = absurd (none≢some (v, rest) is)
amount-ends negative (Quoted w ∷ ts) v rest is = absurd (none≢some (v, rest) is)
amount-ends negative (Text w ∷ ts) v rest is = absurd (none≢some (v, rest) is)
amount-ends negative (Sign w ∷ ts) v rest is = absurd (none≢some (v, rest) is)

now-ends : (now : ℤ) (word : List ℕ) (ts : List Token) (v : Option ℤ) (rest : List Token) → now_at now word ts ≡ Some (v, rest) → Ends rest ts
now-ends now word [] v rest is = absurd (none≢some (v, rest) is)
now-ends now word (o ∷ []) v rest is = absurd (none≢some (v, rest) is)
now-ends now word (o ∷ c ∷ ts) v rest is =
    ends-behind o rest (c ∷ ts) (moved c ts rest (chosen-rest _ (Some now) v ts rest is))

base-ends : (now : ℤ) (ts : List Token) (v : Option ℤ) (rest : List Token) → base_at now ts ≡ Some (v, rest) → Ends rest ts
base-ends now [] v rest is = absurd (none≢some (v, rest) is)
base-ends now (Number n ∷ ts) v rest is = amount-ends false (Number n ∷ ts) v rest is
base-ends now (Duration n ∷ ts) v rest is = amount-ends false (Duration n ∷ ts) v rest is
base-ends now (Word w ∷ ts) v rest is = ends-behind (Word w) rest ts (now-ends now w ts v rest is)
base-ends now (Text raw ∷ ts) v rest is = moved (Text raw) ts rest (mapped-rest in_range (option_and_then civil_time (text_in raw)) ts rest v is)
base-ends now (Sign s ∷ ts) v rest is = by (is_minus (Some s)) is
  where
    by : (b : Bool) → cond b (amount_at true ts) None ≡ Some (v, rest) → Ends rest (Sign s ∷ ts)
    by true is = ends-behind (Sign s) rest ts (amount-ends true ts v rest is)
    by false is = absurd (none≢some (v, rest) is)
base-ends now (Quoted raw ∷ ts) v rest is = absurd (none≢some (v, rest) is)

sums-ends : (total : Option ℤ) (ts : List Token) → Ends (sums_at total ts).1 ts
sums-ends total [] = ends-self []
sums-ends total (only ∷ []) = ends-self (only ∷ [])
sums-ends total (sign ∷ amount ∷ ts) = by (change_in sign amount) (λ change. sums-ends (sum_in_range total change) ts)
  where
    by : (o : Option (Option ℤ)) → ((change : Option ℤ) → Ends (sums_at (sum_in_range total change) ts).1 ts) → Ends (option_map_or (λ change. sums_at (sum_in_range total change) ts) o (total, sign ∷ amount ∷ ts)).1 (sign ∷ amount ∷ ts)
    by None more = ends-self (sign ∷ amount ∷ ts)
    by (Some change) more =
        let rest = (sums_at (sum_in_range total change) ts).1 in
        ends-behind sign rest (amount ∷ ts) (ends-behind amount rest ts (more change))

moment-ends : (now : ℤ) (ts : List Token) (v : Option ℤ) (rest : List Token) → moment_at now ts ≡ Some (v, rest) → Ends rest ts
moment-ends now ts v rest is = by (base_at now ts) refl is
  where
    by : (o : Option (Option ℤ × List Token)) → base_at now ts ≡ o → option_and_then (λ (base : Option ℤ × List Token). Some (sums_at base.0 base.1)) o ≡ Some (v, rest) → Ends rest ts
    by None at is = absurd (none≢some (v, rest) is)
    by (Some base) at is =
        let same : (sums_at base.0 base.1).1 ≡ rest = same-rest (sums_at base.0 base.1).0 v (sums_at base.0 base.1).1 rest is in
        let summed = sums-ends base.0 base.1 in
        ends-both rest base.1 ts (summed.0, summed.1 ∙ ap (λ (us : List Token). summed.0 ++ us) same) (base-ends now ts base.0 base.1 at)

literal-ends : (ts : List Token) (v : Option Literal) (rest : List Token) → literal_at ts ≡ Some (v, rest) → Ends rest ts
literal-ends [] v rest is = absurd (none≢some (v, rest) is)
literal-ends (Text raw ∷ ts) v rest is = moved (Text raw) ts rest (mapped-rest (λ (text : List ℕ). Some (literal.Text text)) (text_in raw) ts rest v is)
literal-ends (Number n ∷ ts) v rest is = moved (Number n) ts rest (same-rest (literal_number n) v ts rest is)
literal-ends (Word w ∷ ts) v rest is = moved (Word w) ts rest (by (str_eq_ignore_ascii_case w true_word) is)
  where
    by : (b : Bool) → cond b (at-front (Some (literal.Bool true)) ts) (cond (str_eq_ignore_ascii_case w false_word) (at-front (Some (literal.Bool false)) ts) None) ≡ at-front v rest → ts ≡ rest
    by true is = same-rest (Some (literal.Bool true)) v ts rest is
    by false is = chosen-rest (str_eq_ignore_ascii_case w false_word) (Some (literal.Bool false)) v ts rest is
literal-ends (Sign s ∷ Number n ∷ ts) v rest is =
    ends-behind (Sign s) rest (Number n ∷ ts) (moved (Number n) ts rest (chosen-rest (is_minus (Some s)) (option_and_then (λ amount. Some (literal.Int amount)) (signed true n)) v ts rest is))
literal-ends (Sign s ∷ Word w ∷ ts) v rest is = absurd (none≢some (v, rest) is)
literal-ends (Sign s ∷ Quoted w ∷ ts) v rest is = absurd (none≢some (v, rest) is)
literal-ends (Sign s ∷ Text w ∷ ts) v rest is = absurd (none≢some (v, rest) is)
literal-ends (Sign s ∷ Duration w ∷ ts) v rest is = absurd (none≢some (v, rest) is)
literal-ends (Sign s ∷ Sign w ∷ ts) v rest is = absurd (none≢some (v, rest) is)
literal-ends (Sign s ∷ []) v rest is = absurd (none≢some (v, rest) is)
literal-ends (Quoted raw ∷ ts) v rest is = absurd (none≢some (v, rest) is)
literal-ends (Duration n ∷ ts) v rest is = absurd (none≢some (v, rest) is)

time-ends : (now : ℤ) (ts : List Token) (p : Piece) (rest : List Token) → time_test_at now ts ≡ Some (p, rest) → Ends rest ts
time-ends now [] p rest is = absurd (none≢some (p, rest) is)
time-ends now (compared ∷ ts) p rest is = by (option_and_then time_op (op_in compared)) is
  where
    behind : (op : Op) (o : Option (Option ℤ × List Token)) → moment_at now ts ≡ o →
        option_and_then (λ (moment : Option ℤ × List Token). at-front (piece.Test (test.Time op moment.0)) moment.1) o ≡ at-front p rest → Ends rest (compared ∷ ts)
    behind op None at is = absurd (none≢some (p, rest) is)
    behind op (Some moment) at is =
        let same : moment.1 ≡ rest = same-rest (piece.Test (test.Time op moment.0)) p moment.1 rest is in
        ends-behind compared rest ts (moment-ends now ts moment.0 rest (at ∙ ap (λ (us : List Token). Some (moment.0, us)) same))

    by : (o : Option Op) → option_and_then (λ (op : Op). option_and_then (λ (moment : Option ℤ × List Token). at-front (piece.Test (test.Time op moment.0)) moment.1) (moment_at now ts)) o ≡ at-front p rest → Ends rest (compared ∷ ts)
    by None is = absurd (none≢some (p, rest) is)
    by (Some op) is = behind op (moment_at now ts) refl is

name-ends : (name : List ℕ) (ts : List Token) (p : Piece) (rest : List Token) → name_test_at name ts ≡ Some (p, rest) → Ends rest ts
name-ends name [] p rest is = absurd (none≢some (p, rest) is)
name-ends name (compared ∷ ts) p rest is = by (op_in compared) is
  where
    behind : (op : Op) (o : Option (Option Literal × List Token)) → literal_at ts ≡ o →
        option_and_then (λ (l : Option Literal × List Token). at-front (piece.Test (test.Compare name op l.0)) l.1) o ≡ at-front p rest → Ends rest (compared ∷ ts)
    behind op None at is = absurd (none≢some (p, rest) is)
    behind op (Some l) at is =
        let same : l.1 ≡ rest = same-rest (piece.Test (test.Compare name op l.0)) p l.1 rest is in
        ends-behind compared rest ts (literal-ends ts l.0 rest (at ∙ ap (λ (us : List Token). Some (l.0, us)) same))

    by : (o : Option Op) → option_and_then (λ (op : Op). option_and_then (λ (l : Option Literal × List Token). at-front (piece.Test (test.Compare name op l.0)) l.1) (literal_at ts)) o ≡ at-front p rest → Ends rest (compared ∷ ts)
    by None is = absurd (none≢some (p, rest) is)
    by (Some op) is = behind op (literal_at ts) refl is

pub piece-ends : (now : ℤ) (ts : List Token) (p : Piece) (rest : List Token) → piece_at now ts ≡ Some (p, rest) → Ends rest ts
piece-ends now [] p rest is = absurd (none≢some (p, rest) is)
piece-ends now (t ∷ ts) p rest is = opens (is_open (symbol_in t)) is
  where
    tests : (o : Option (List ℕ)) → option_and_then (λ (name : List ℕ). name_test_at name ts) o ≡ at-front p rest → Ends rest (t ∷ ts)
    tests None is = absurd (none≢some (p, rest) is)
    tests (Some name) is = ends-behind t rest ts (name-ends name ts p rest is)

    times : (b : Bool) → cond b (time_test_at now ts) (option_and_then (λ (name : List ℕ). name_test_at name ts) (name_in t)) ≡ at-front p rest → Ends rest (t ∷ ts)
    times true is = ends-behind t rest ts (time-ends now ts p rest is)
    times false is = tests (name_in t) is

    ors : (b : Bool) → cond b (at-front (piece.Join join.Or) ts) (cond (is_keyword time_word t) (time_test_at now ts) (option_and_then (λ (name : List ℕ). name_test_at name ts) (name_in t))) ≡ at-front p rest → Ends rest (t ∷ ts)
    ors true is = moved t ts rest (same-rest (piece.Join join.Or) p ts rest is)
    ors false is = times (is_keyword time_word t) is

    ands : (b : Bool) → cond b (at-front (piece.Join join.And) ts) (cond (is_keyword or_word t) (at-front (piece.Join join.Or) ts) (cond (is_keyword time_word t) (time_test_at now ts) (option_and_then (λ (name : List ℕ). name_test_at name ts) (name_in t)))) ≡ at-front p rest → Ends rest (t ∷ ts)
    ands true is = moved t ts rest (same-rest (piece.Join join.And) p ts rest is)
    ands false is = ors (is_keyword or_word t) is

    closes : (b : Bool) → cond b (at-front piece.Close ts) (cond (is_keyword and_word t) (at-front (piece.Join join.And) ts) (cond (is_keyword or_word t) (at-front (piece.Join join.Or) ts) (cond (is_keyword time_word t) (time_test_at now ts) (option_and_then (λ (name : List ℕ). name_test_at name ts) (name_in t))))) ≡ at-front p rest → Ends rest (t ∷ ts)
    closes true is = moved t ts rest (same-rest piece.Close p ts rest is)
    closes false is = ands (is_keyword and_word t) is

    opens : (b : Bool) → cond b (at-front piece.Open ts) (cond (is_close (symbol_in t)) (at-front piece.Close ts) (cond (is_keyword and_word t) (at-front (piece.Join join.And) ts) (cond (is_keyword or_word t) (at-front (piece.Join join.Or) ts) (cond (is_keyword time_word t) (time_test_at now ts) (option_and_then (λ (name : List ℕ). name_test_at name ts) (name_in t)))))) ≡ at-front p rest → Ends rest (t ∷ ts)
    opens true is = moved t ts rest (same-rest piece.Open p ts rest is)
    opens false is = closes (is_close (symbol_in t)) is

-- an end of an end is told by how many tokens it has
pub end-at : (tokens : List Token) (place : ℕ) (rest : List Token) → place ≤ length tokens → Ends rest (drop place tokens) → drop (length tokens - length rest) tokens ≡ rest
end-at tokens place rest within (front, is) =
    let sizes : length (drop place tokens) ≡ length front + length rest = ap (λ (us : List Token). length us) is ∙ length-append front rest in
    let dropped : length (drop place tokens) ≡ length tokens - place = length-drop place tokens in
    let count : length tokens - length rest ≡ place + length front = omega (arith, sizes, dropped, within) in
    ap (λ (n : ℕ). drop n tokens) count ∙ sym (drop-drop (length front) place tokens) ∙ ap (λ (us : List Token). drop (length front) us) is ∙ drop-append_seam front rest

-- the loop over pieces, by the place that it has come to
pub none-behind : (now : ℤ) (tokens left : List Token) (pieces : List Piece) (place : ℕ) → PiecesLeft now tokens pieces (drop place tokens) → left ≡ drop place tokens → place < length tokens →
    piece_at now left ≡ None → (all : List Piece) → ArePieces now all tokens [] → ⊥
none-behind now tokens left pieces place before is within none all are =
    pieces-none now tokens pieces left (subst (λ (ts : List Token). PiecesLeft now tokens pieces ts) (sym is) before) some none all are
  where
    some : left ≡ [] → ⊥
    some empty =
        let sizes : length left ≡ length tokens - place = ap (λ (ts : List Token). length ts) is ∙ length-drop place tokens in
        let nothing : length left ≡ 0 = ap (λ (ts : List Token). length ts) empty in
        omega (arith, sizes, nothing, within)

pub next-behind : (now : ℤ) (tokens left behind : List Token) (piece : Piece) (pieces next : List Piece) (place : ℕ) → PiecesLeft now tokens pieces (drop place tokens) → left ≡ drop place tokens →
    place ≤ length tokens → piece_at now left ≡ Some (piece, behind) → next ≡ pieces ++ piece ∷ [] → PiecesLeft now tokens next (drop (length tokens - length behind) tokens)
next-behind now tokens left behind piece pieces next place before is within at pushed =
    let at_left : Ends behind (drop place tokens) = subst (λ (ts : List Token). Ends behind ts) is (piece-ends now left piece behind at) in
    let more = pieces-next now tokens pieces left behind piece (subst (λ (ts : List Token). PiecesLeft now tokens pieces ts) (sym is) before) at in
    subst (λ (ps : List Piece). PiecesLeft now tokens ps (drop (length tokens - length behind) tokens)) (sym pushed)
    (subst (λ (ts : List Token). PiecesLeft now tokens (pieces ++ piece ∷ []) ts) (sym (end-at tokens place behind within at_left)) more)

pub end-behind : (now : ℤ) (tokens : List Token) (pieces : List Piece) (place : ℕ) → PiecesLeft now tokens pieces (drop place tokens) → length tokens ≤ place → ArePieces now pieces tokens []
end-behind now tokens pieces place before past = pieces-end now tokens pieces (drop place tokens) before (drop_of_length-le tokens past)
