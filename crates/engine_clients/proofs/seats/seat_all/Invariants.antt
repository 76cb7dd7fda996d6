-- The first clients have their passes, and the first pass has so many parts less.
use Rattle.std.proofs.Common.{◌≡◌, ◌≤◌, length}
use Rattle.history_turn.specs.Passes.{viewing, fresh}
use Rattle.history_turn.specs.Views.{cut, part_of}
use Rattle.engine_clients.specs.Seats.{seated_with}
use Rattle.engine_clients.proofs.SeatLemmas.{changed}
use Rattle.engine_clients.proofs.seats.seat_all.Given as goal

abbrev pub invariant-loop-k : goal.invariant-loop-k
invariant-loop-k g l = (l.first ≡ viewing l.fn.first (cut l.fn.first.view l.k))
    × (l.clients ≡ changed (seated_with (fresh l.fn.first (part_of l.fn.first.view 1))) l.k l.fn.clients) × (l.k ≤ length l.fn.clients)
