use Rattle.std.proofs.Common.{◌≡◌, ◌++◌, ℕ, List, length, take, drop, ap, ◌∙◌, arith, rules}
use Rattle.std.proofs.lemmas.List.{append-nil, drop_all, take_all}
use Rattle.value_codec.proofs.numbers.steps_to.Goals as goal

-- a list that was written over one of its length
written_over : (len : ℕ) (new old : List ℕ) → len ≡ length old → length new ≡ length old → take len (new ++ drop (length new) old) ≡ new
written_over len new old len_is same =
    ap (λ (back : List ℕ). take len (new ++ back)) (drop_all (length new) old (omega (arith, same)))
    ∙ ap (take len) (append-nil new)
    ∙ take_all len new (omega (arith, same, len_is))

pub returns : goal.returns
returns c =
    let size : length c.in_ok-steps.steps.items ≡ length c.args.values.now = search rules in
    written_over c.in_ok-steps.steps.len c.tell_steps.new.steps c.in_ok-steps.steps.items c.in_ok-steps.steps.ok.0 (omega (arith, c.tell_steps.auto.steps, size)) ∙ c.tell_steps.ensures
