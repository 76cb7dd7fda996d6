use Rattle.std.proofs.Common.{◌≡◌, ◌&&◌, ℕ, Bool, true, List, [], ◌∷◌, length, ltb, eqb, sym, ◌∙◌, ap, arith}
use Rattle.std.specs.List.{list_all}
use Rattle.std.proofs.lemmas.List.{nil_from_length}
use Rattle.std.proofs.lemmas.Bool.{eqb-true, eqb-false, lt-ltb}
use Rattle.value_codec.specs.Steps.{is_run}
use Rattle.value_codec.proofs.Tails.{is_run-cons, is_run-nil}
use Rattle.value_codec.proofs.form.repeats.Goals as goal

pub returns-in_default : goal.returns-in_default
returns-in_default c = sym (ap is_run (nil_from_length c.args.steps.now c.in_default.ensures.cases) ∙ is_run-nil)

pub returns-then-is_empty : goal.returns-then-is_empty
returns-then-is_empty c =
    let others = c.in-Some.others.now in
    let none : others ≡ [] = nil_from_length others (eqb-true (length others) 0 (sym c.is_empty.ensures ∙ c.if-is_empty.true)) in
    sym (ap is_run (c.in-Some.ensures.cases.0 ∙ ap (λ (xs : List ℕ). c.in-Some.first.now ∷ xs) none) ∙ is_run-cons c.in-Some.first.now [])

pub returns : goal.returns
returns c =
    let others = c.in-Some.others.now in
    let some : length others ≡ 0 → ⊥ = eqb-false (length others) 0 (sym c.is_empty.ensures ∙ c.if-is_empty.false) in
    let more : ltb 0 (length others) ≡ true = lt-ltb 0 (length others) (omega (arith, some)) in
    c.are_all.ensures
    ∙ sym (ap is_run c.in-Some.ensures.cases.0 ∙ is_run-cons c.in-Some.first.now others ∙ ap (λ (b : Bool). b && list_all (λ step. eqb step c.in-Some.first.now) others) more)
