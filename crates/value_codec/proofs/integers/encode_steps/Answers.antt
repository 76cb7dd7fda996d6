use Rattle.std.proofs.Common.{◌≡◌, ◌<◌, ◌≤◌, ◌^◌, ◌++◌, ◌∷◌, [], ℕ, List, length, take, drop, get_or, All, subst, sym, ◌∙◌, ap, arith, refl}
use Rattle.std.proofs.lemmas.List.Elements.{All-same, All-drop, All-from_get_or}
use Rattle.std.proofs.lemmas.Result.{IfOk-weaker}
use Rattle.value_codec.specs.declared.form.Form.{Form}
use Rattle.value_codec.specs.declared.form.Form.TheVariants.{Raw, Packed, RunLength}
use Rattle.value_codec.specs.Steps.{big_endian, coded_steps, form_byte, form_of, tail_of, FitsForm}
use Rattle.value_codec.proofs.Tails.{coded_steps-cons, form_fits, run_is}
use Rattle.value_codec.proofs.integers.encode_steps.Goals as goal

-- the first step and the rest
split : (steps : List ℕ) → 1 ≤ length steps → steps ≡ get_or (take 1 steps) 0 0 ∷ drop 1 steps
split [] some = absurd (omega arith)
split (first ∷ rest) some = refl

-- the bytes of a form are those of the steps
whole : (form : Form) (steps head rest : List ℕ) (first : ℕ) → 1 ≤ length steps → head ≡ take 1 steps → rest ≡ drop 1 steps → first ≡ get_or head 0 0 → form ≡ form_of first rest → (form_byte form ∷ big_endian first) ++ tail_of form rest ≡ coded_steps steps
whole form steps head rest first some front back is form-is =
    ap (λ (f : Form). (form_byte f ∷ big_endian first) ++ tail_of f rest) form-is
    ∙ sym (coded_steps-cons first rest)
    ∙ ap (λ (n : ℕ). coded_steps (n ∷ rest)) (is ∙ ap (λ (xs : List ℕ). get_or xs 0 0) front)
    ∙ ap (λ (xs : List ℕ). coded_steps (get_or (take 1 steps) 0 0 ∷ xs)) back
    ∙ ap coded_steps (sym (split steps some))

pub encode_packed-requires-clause-narrow : goal.encode_packed-requires-clause-narrow
encode_packed-requires-clause-narrow c =
    let fit : All (λ step. step < 2 ^ 64) c.split_at.result.1.now =
    All-same (λ step. step < 2 ^ 64) c.split_at.result.1.now (drop 1 c.args.steps.now) c.split_at.ensures.back (All-drop (λ step. step < 2 ^ 64) 1 c.args.steps.now
    (All-from_get_or (λ step. step < 2 ^ 64) c.args.steps.now 0 (λ i _. (c.type_inv.steps i).fits))) in
    subst (λ (f : Form). FitsForm f c.split_at.result.1.now) (sym c.form_for.ensures ∙ c.in-Packed.is) (form_fits (get_or c.split_at.result.0.now 0 0) c.split_at.result.1.now fit)

pub encode_run-requires-clause-some : goal.encode_run-requires-clause-some
encode_run-requires-clause-some c =
    let fit : All (λ step. step < 2 ^ 64) c.split_at.result.1.now =
    All-same (λ step. step < 2 ^ 64) c.split_at.result.1.now (drop 1 c.args.steps.now) c.split_at.ensures.back (All-drop (λ step. step < 2 ^ 64) 1 c.args.steps.now
    (All-from_get_or (λ step. step < 2 ^ 64) c.args.steps.now 0 (λ i _. (c.type_inv.steps i).fits))) in
    let run = subst (λ (f : Form). FitsForm f c.split_at.result.1.now) (sym c.form_for.ensures ∙ c.in-RunLength.is) (form_fits (get_or c.split_at.result.0.now 0 0) c.split_at.result.1.now fit) in
    omega (arith, (run_is c.split_at.result.1.now run.0).1)

pub returns-in-Raw : goal.returns-in-Raw
returns-in-Raw c =
    IfOk-weaker c.encode_raw.result _ _
    (λ bytes is. is ∙ whole Raw c.args.steps.now c.split_at.result.0.now c.split_at.result.1.now _ c.requires.some c.split_at.ensures.front c.split_at.ensures.back refl (sym c.in-Raw.is ∙ c.form_for.ensures))
    c.encode_raw.ensures

pub returns-in-Packed : goal.returns-in-Packed
returns-in-Packed c =
    IfOk-weaker c.encode_packed.result _ _
    (λ bytes is. is ∙ whole Packed c.args.steps.now c.split_at.result.0.now c.split_at.result.1.now _ c.requires.some c.split_at.ensures.front c.split_at.ensures.back refl (sym c.in-Packed.is ∙ c.form_for.ensures))
    c.encode_packed.ensures

pub returns-in-RunLength : goal.returns-in-RunLength
returns-in-RunLength c =
    IfOk-weaker c.encode_run.result _ _
    (λ bytes is. is ∙ whole RunLength c.args.steps.now c.split_at.result.0.now c.split_at.result.1.now _ c.requires.some c.split_at.ensures.front c.split_at.ensures.back refl (sym c.in-RunLength.is ∙ c.form_for.ensures))
    c.encode_run.ensures
