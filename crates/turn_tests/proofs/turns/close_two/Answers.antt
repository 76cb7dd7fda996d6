use Rattle.std.proofs.Common.{◌≡◌, ◌+◌, length, ap, sym, ◌∙◌, length-append}
use Rattle.history_turn.proofs.OwnedLemmas.{same_length, length-numbers_after}
use Rattle.turn_tests.proofs.turns.close_two.Goals as goal

pub returns : goal.returns
returns c =
    let k = c.close.ensures in
    let j = c.join.ensures in
    let owned = same_length _ _ k.own ∙ length-numbers_after _ (length k.entries) in
    let own = ap (λ p. length p.view.own) j.now ∙ length-append c.args.first.view.own c.args.second.view.own in
    let all : length k.entries ≡ length c.args.first.view.own + length c.args.second.view.own = sym owned ∙ own in
    k.stands_for.0 ∙ (ap (λ p. p.view.start.number + length k.entries) j.now ∙ ap (λ n. c.args.first.view.start.number + n) all)
