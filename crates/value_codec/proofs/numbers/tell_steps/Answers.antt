use Rattle.std.proofs.Common.{◌≡◌, ◌<◌, length, ◌+◌, ◌++◌, ◌∷◌, [], ℕ, List, take, drop, map, get_or, sym, ◌∙◌, ap, arith, append_assoc}
use Rattle.std.proofs.lemmas.List.{at_drop_more, at_drop_all, append-nil, take_all, take_more_set}
use Rattle.tsdb_types.specs.declared.value.Value.{Value}
use Rattle.value_codec.specs.Steps.{steps_from, step_of}
use Rattle.value_codec.specs.Coding.{number_of}
use Rattle.value_codec.proofs.StepLemmas.{steps_from-cons, steps_from-nil}
use Rattle.value_codec.proofs.numbers.tell_steps.Goals as goal

-- one more step
one_more : (values : List Value) (index before number step : ℕ) (other : Value) (steps new all : List ℕ) → index < length values → number ≡ number_of (get_or values index other) → step ≡ step_of before number → new ≡ steps ++ step ∷ [] → steps ++ steps_from before (map number_of (drop index values)) ≡ all → new ++ steps_from number (map number_of (drop (index + 1) values)) ≡ all
one_more values index before number step other steps new all below is taken pushed read =
    let later = steps_from number (map number_of (drop (index + 1) values)) in
    let left : steps_from before (map number_of (drop index values)) ≡ step ∷ later =
    at_drop_more (λ vs. steps_from before (map number_of vs)) values index other below
    ∙ ap (λ (n : ℕ). steps_from before (n ∷ map number_of (drop (index + 1) values))) (sym is)
    ∙ steps_from-cons before number (map number_of (drop (index + 1) values))
    ∙ ap (λ (n : ℕ). n ∷ later) (sym taken) in
    ap (λ (ns : List ℕ). ns ++ later) pushed ∙ append_assoc steps (step ∷ []) later ∙ ap (λ (ns : List ℕ). steps ++ ns) (sym left) ∙ read

pub loop-k-preserved : goal.loop-k-preserved
loop-k-preserved c =
    let at = c.loop-k in
    one_more c.args.values.now at.k at.before c.bits_of-number.result c.step_between.result _ (take at.k at.steps) _ _
    c.loop-k-test.true c.bits_of-number.ensures c.step_between.ensures (take_more_set at.steps at.k c.step_between.result (omega (arith, at.auto.steps, c.requires, c.loop-k-test.true))) at.invariant

pub returns : goal.returns
returns c =
    let at = c.loop-k in
    let values = c.args.values.now in
    let none : steps_from at.before (map number_of (drop at.k values)) ≡ [] =
    at_drop_all (λ vs. steps_from at.before (map number_of vs)) values at.k c.loop-k-test.false ∙ steps_from-nil at.before in
    sym (take_all at.k at.steps (omega (arith, at.auto.steps, c.requires, c.loop-k-test.false))) ∙ sym (append-nil (take at.k at.steps)) ∙ ap (λ (ns : List ℕ). take at.k at.steps ++ ns) (sym none) ∙ at.invariant
