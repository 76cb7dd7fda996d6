-- The passes of the first clients were taken in.
use Rattle.std.proofs.Common.{◌≡◌, ◌≤◌, length, take}
use Rattle.engine_clients.specs.Seats.{unseated, JoinsAll}
use Rattle.engine_clients.proofs.SeatLemmas.{changed}
use Rattle.engine_clients.proofs.seats.join_all.Given as goal

abbrev pub invariant-loop-k : goal.invariant-loop-k
invariant-loop-k g l = JoinsAll l.fn.first (take l.k l.fn.clients) l.first × (l.clients ≡ changed unseated l.k l.fn.clients) × (l.k ≤ length l.fn.clients)
