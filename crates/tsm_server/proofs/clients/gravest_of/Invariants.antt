-- what those ahead add to the gravest so far is what all add to the first
use Rattle.std.proofs.Common.{◌≡◌, drop}
use Rattle.tsm_server.specs.Directories.{gravest}
use Rattle.tsm_server.specs.Seats.{ends_of}
use Rattle.tsm_server.proofs.clients.gravest_of.Given as goal

abbrev pub invariant-loop-client : goal.invariant-loop-client
invariant-loop-client g l = gravest l.fn.closing (ends_of l.clients) ≡ gravest l.status (ends_of (drop l.client-index l.clients))
