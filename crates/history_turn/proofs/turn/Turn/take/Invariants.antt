use Rattle.std.proofs.Common.{◌≡◌}
use Rattle.history_turn.proofs.turn.Turn.take.Given as goal

abbrev pub invariant-loop : goal.invariant-loop
invariant-loop g l = l.pass ≡ l.initial.pass
