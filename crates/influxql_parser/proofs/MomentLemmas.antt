use Rattle.std.proofs.Common.{◌≡◌, ℕ, ℤ, Bool, true, false, cond, Option, Some, None, List, [], ◌∷◌, ◌+◌, ◌-◌, ◌≤◌, length, arith, drop, refl, sym, ap, ◌∙◌}
use Rattle.std.proofs.lemmas.List.{drop-drop, length-drop}
use Rattle.std.specs.Prelude.{option_and_then, IfSome, IfNone}
use Rattle.std.specs.Option.{option_map_or}
use Rattle.influxql_parser.specs.Tokens.{Token, Word, Quoted, Text, Number, Duration, Sign}
use Rattle.influxql_parser.specs.CivilTimes.{civil_time}
use Rattle.influxql_parser.specs.GrammarWords.{text_in}
use Rattle.influxql_parser.specs.GrammarPieces.{base_at, change_in, in_range, sum_in_range, sums_at}

-- a duration with its sign at the front is added, and what stands behind both is left
pub change-found : (tokens behind rest : List Token) (sign amount : Token) (o : Option (Option ℤ)) → tokens ≡ sign ∷ behind → behind ≡ amount ∷ rest → o ≡ change_in sign amount →
    IfSome o (λ change. (total : Option ℤ) → sums_at total tokens ≡ sums_at (sum_in_range total change) (drop 2 tokens))
change-found tokens behind rest sign amount None first second is = tt
change-found tokens behind rest sign amount (Some change) first second is = λ total.
    let whole : tokens ≡ sign ∷ amount ∷ rest = first ∙ ap (λ (ts : List Token). sign ∷ ts) second in
    ap (λ (ts : List Token). sums_at total ts) whole
    ∙ ap (λ (o : Option (Option ℤ)). option_map_or (λ (c : Option ℤ). sums_at (sum_in_range total c) rest) o (total, sign ∷ amount ∷ rest)) (sym is)
    ∙ ap (λ (ts : List Token). sums_at (sum_in_range total change) (drop 2 ts)) (sym whole)

-- the moment that a text in quotes begins
abbrev pub text-moment : List Token → Option (Option ℤ) → Option (Option ℤ × List Token)
text-moment behind o = option_and_then (λ (moment : Option ℤ). Some (moment, behind)) o

abbrev pub civil-of : Option ℤ → Option (Option ℤ)
civil-of o = option_and_then (λ time. Some (in_range time)) o

text-base : (o : Option ℤ) (behind : List Token) → option_and_then (λ time. Some (in_range time, behind)) o ≡ text-moment behind (civil-of o)
text-base None behind = refl
text-base (Some time) behind = refl

pub civil-base : (now : ℤ) (tokens behind : List Token) (first : Token) (raw : List ℕ) (o : Option (Option ℤ)) → tokens ≡ first ∷ behind → Text raw ≡ first →
    o ≡ civil-of (option_and_then civil_time (text_in raw)) → base_at now tokens ≡ text-moment behind o
civil-base now tokens behind first raw o split is found =
    ap (λ (ts : List Token). base_at now ts) split ∙ ap (λ (t : Token). base_at now (t ∷ behind)) (sym is)
    ∙ text-base (option_and_then civil_time (text_in raw)) behind ∙ ap (text-moment behind) (sym found)

pub first-base : (now : ℤ) (tokens behind : List Token) (first other : Token) → tokens ≡ first ∷ behind → other ≡ first → base_at now tokens ≡ base_at now (other ∷ behind)
first-base now tokens behind first other split is =
    ap (λ (ts : List Token). base_at now ts) split ∙ ap (λ (t : Token). base_at now (t ∷ behind)) (sym is)

pub sign-found : {A : Type 0} (now : ℤ) (tokens behind : List Token) (first sign : Token) (o : Option A) (f : A → Option (Option ℤ × List Token)) → tokens ≡ first ∷ behind → sign ≡ first →
    IfSome o (λ cut. (now : ℤ) → base_at now (sign ∷ behind) ≡ f cut) → IfSome o (λ cut. base_at now tokens ≡ f cut)
sign-found now tokens behind first sign None f split is found = tt
sign-found now tokens behind first sign (Some cut) f split is found = first-base now tokens behind first sign split is ∙ found now

pub sign-none : {A : Type 0} (now : ℤ) (tokens behind : List Token) (first sign : Token) (o : Option A) → tokens ≡ first ∷ behind → sign ≡ first →
    IfNone o ((now : ℤ) → base_at now (sign ∷ behind) ≡ None) → IfNone o (base_at now tokens ≡ None)
sign-none now tokens behind first sign None split is none = first-base now tokens behind first sign split is ∙ none now
sign-none now tokens behind first sign (Some cut) split is none = tt

-- a duration more is added, and two tokens more are passed
pub sum-next : (tokens left : List Token) (place : ℕ) (total change next : Option ℤ) (all : Option ℤ × List Token) → left ≡ drop place tokens →
    ((t : Option ℤ) → sums_at t left ≡ sums_at (sum_in_range t change) (drop 2 left)) → next ≡ sum_in_range total change → sums_at total (drop place tokens) ≡ all →
    sums_at next (drop (place + 2) tokens) ≡ all
sum-next tokens left place total change next all is step added so_far =
    ap (λ (t : Option ℤ). sums_at t (drop (place + 2) tokens)) added
    ∙ ap (λ (ts : List Token). sums_at (sum_in_range total change) ts) (sym (drop-drop 2 place tokens))
    ∙ ap (λ (ts : List Token). sums_at (sum_in_range total change) (drop 2 ts)) (sym is)
    ∙ sym (step total) ∙ ap (λ (ts : List Token). sums_at total ts) is ∙ so_far

pub sum-within : (tokens left : List Token) (place : ℕ) → left ≡ drop place tokens → 2 ≤ length left → place + 2 ≤ length tokens
sum-within tokens left place is two =
    let sizes : length left ≡ length tokens - place = ap (λ (ts : List Token). length ts) is ∙ length-drop place tokens in
    omega (arith, sizes, two)
