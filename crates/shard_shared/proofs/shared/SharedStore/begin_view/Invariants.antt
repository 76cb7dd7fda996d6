-- While it waits, the pass has what it had.
use Rattle.std.proofs.Common.{◌≡◌}
use Rattle.shard_shared.proofs.TurnLemmas.{Waits}
use Rattle.shard_shared.proofs.shared.SharedStore.begin_view.Given as goal

abbrev pub invariant-loop : goal.invariant-loop
invariant-loop g l = (l.self.client ≡ l.initial.self.client) × Waits l.initial.self.pass.view l.self.pass.view
