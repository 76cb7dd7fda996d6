-- Numbers by their steps.
use Rattle.std.proofs.Common.{◌≡◌, ℕ, ℤ, suc, pos, negsuc, ◌+◌, ◌-◌, ◌*◌, ◌^◌, ◌%◌, ◌<◌, ◌≤◌, ⊎_elim, Bool, List, [], ◌∷◌, ◌++◌, length, map, All, sym, ◌∙◌, ap, subst, refl, arith, append_assoc}
use Rattle.std.specs.Int.{w64, cast_signed, cast_unsigned}
use mir.Val.{SFits, sel}
use Rattle.std.proofs.lemmas.Bool.{cases_lt, le-ltb}
use Rattle.std.proofs.lemmas.Int.{to_z-of_z, to_z_pos}
use Rattle.std.proofs.lemmas.List.{map_push}
use Rattle.std.proofs.lemmas.List.Elements.{All-nil, All-cons}
use Rattle.word_codec.specs.Zigzag.{zigzag_of}
use Rattle.tsdb_types.specs.declared.value.Value.{Value}
use Rattle.value_codec.specs.Steps.{step_of, steps_from}
use Rattle.value_codec.specs.Coding.{number_of}

pub step_of-is : (before number : ℕ) → step_of before number ≡ zigzag_of (cast_signed w64 ((number + (2 ^ 64 - before)) % 2 ^ 64))
unfolding step_of
step_of-is before number = refl

pub steps_from-nil : (before : ℕ) → steps_from before [] ≡ []
unfolding steps_from
steps_from-nil before = refl

pub steps_from-cons : (before number : ℕ) (numbers : List ℕ) → steps_from before (number ∷ numbers) ≡ step_of before number ∷ steps_from number numbers
unfolding steps_from
steps_from-cons before number numbers = refl

pub length-steps_from : (before : ℕ) (numbers : List ℕ) → length (steps_from before numbers) ≡ length numbers
length-steps_from before [] = ap length (steps_from-nil before)
length-steps_from before (number ∷ numbers) = ap length (steps_from-cons before number numbers) ∙ ap suc (length-steps_from number numbers)

negative : (n : ℕ) → 2 ^ 63 ≤ n → cast_signed w64 n ≡ negsuc (2 ^ 64 - suc n)
negative n high = ap (λ (b : Bool). sel b (pos n) (negsuc (2 ^ 64 - suc n))) (le-ltb n (2 ^ 63) high)

zigzag_small : (n : ℕ) → n < 2 ^ 64 → zigzag_of (cast_signed w64 n) < 2 ^ 64
zigzag_small n fit =
    ⊎_elim
    (λ low. subst (λ (z : ℤ). zigzag_of z < 2 ^ 64) (sym (to_z_pos w64 n low)) (let h : 2 * n < 2 ^ 64 = omega arith in h))
    (λ high. subst (λ (z : ℤ). zigzag_of z < 2 ^ 64) (sym (negative n high)) (let h : 2 * (2 ^ 64 - suc n) + 1 < 2 ^ 64 = omega arith in h))
    (cases_lt n (2 ^ 63))

pub step_of-lt : (before number : ℕ) → step_of before number < 2 ^ 64
step_of-lt before number = subst (λ (n : ℕ). n < 2 ^ 64) (sym (step_of-is before number)) (zigzag_small ((number + (2 ^ 64 - before)) % 2 ^ 64) (omega arith))

pub steps_from-fit : (before : ℕ) (numbers : List ℕ) → All (λ step. step < 2 ^ 64) (steps_from before numbers)
steps_from-fit before [] = subst (λ (xs : List ℕ). All (λ step. step < 2 ^ 64) xs) (sym (steps_from-nil before)) (All-nil (λ step. step < 2 ^ 64))
steps_from-fit before (number ∷ numbers) =
    subst (λ (xs : List ℕ). All (λ step. step < 2 ^ 64) xs) (sym (steps_from-cons before number numbers))
    (All-cons (λ step. step < 2 ^ 64) (step_of before number) (steps_from number numbers) (step_of-lt before number) (steps_from-fit number numbers))

-- a step that is taken is the step there
pub step_taken : (before step bits : ℕ) (signed : ℤ) → before < 2 ^ 64 → bits < 2 ^ 64 → SFits w64 signed → zigzag_of signed ≡ step → bits ≡ cast_unsigned w64 signed → step_of before ((before + bits) % 2 ^ 64) ≡ step
step_taken before step bits signed fit low whole found is =
    let back : ((before + bits) % 2 ^ 64 + (2 ^ 64 - before)) % 2 ^ 64 ≡ bits = omega arith in
    step_of-is before ((before + bits) % 2 ^ 64)
    ∙ ap (λ (n : ℕ). zigzag_of (cast_signed w64 n)) (back ∙ is)
    ∙ ap zigzag_of (to_z-of_z w64 signed whole)
    ∙ found

-- the first value
pub first_value : (items : List Value) (value : Value) (number first : ℕ) → items ≡ value ∷ [] → number_of value ≡ number → step_of 0 number ≡ first → (later : List ℕ) → steps_from 0 (map number_of items ++ later) ≡ first ∷ steps_from number later
first_value items value number first is bits step later =
    ap (λ (vs : List Value). steps_from 0 (map number_of vs ++ later)) is
    ∙ ap (λ (n : ℕ). steps_from 0 (n ∷ later)) bits
    ∙ steps_from-cons 0 number later
    ∙ ap (λ (n : ℕ). n ∷ steps_from number later) step

-- one more value
pub next_value : (old new : List Value) (value : Value) (number next step : ℕ) (done : List ℕ) → new ≡ old ++ value ∷ [] → number_of value ≡ next → step_of number next ≡ step → ((later : List ℕ) → steps_from 0 (map number_of old ++ later) ≡ done ++ steps_from number later) → (later : List ℕ) → steps_from 0 (map number_of new ++ later) ≡ (done ++ step ∷ []) ++ steps_from next later
next_value old new value number next step done is bits taken before later =
    ap (λ (vs : List Value). steps_from 0 (map number_of vs ++ later)) is
    ∙ ap (λ (ns : List ℕ). steps_from 0 (ns ++ later)) (map_push number_of old value)
    ∙ ap (steps_from 0) (append_assoc (map number_of old) (number_of value ∷ []) later)
    ∙ before (number_of value ∷ later)
    ∙ ap (λ (n : ℕ). done ++ steps_from number (n ∷ later)) bits
    ∙ ap (λ (ns : List ℕ). done ++ ns) (steps_from-cons number next later ∙ ap (λ (n : ℕ). n ∷ steps_from next later) taken)
    ∙ sym (append_assoc done (step ∷ []) (steps_from next later))
