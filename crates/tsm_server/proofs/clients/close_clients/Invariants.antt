-- The first clients are closed, and the others wait in their order.
use Rattle.std.proofs.Common.{◌≡◌, ◌+◌, ◌++◌, List, length, map, reverse, All, None}
use Rattle.engine_session.specs.Devices.{devices}
use Rattle.tsm_server.specs.Directories.{Closes, seen}
use Rattle.tsm_server.specs.Seats.{left_by}
use Rattle.tsm_server.proofs.clients.close_clients.Given as goal

abbrev pub invariant-loop-client : goal.invariant-loop-client
invariant-loop-client g l = record {
  done : List _;
  whole : l.fn.clients.items ≡ done ++ reverse l.clients.items;
  empty : All (λ c. c.pass ≡ None) l.clients.items;
  closes : Closes (map (left_by (devices g.K.Source.Source.given g.K.Source.Source.left g.K.Source.Source.ended g.K.Source.Source.health g.K.Sink.Sink.written g.K.Sink.Sink.health g.K.Clock.Clock.moments)) done)
      (seen g.K.Desk.health g.K.Desk.dirs g.K.Desk.held g.K.Desk.closed l.fn.desk) (seen g.K.Desk.health g.K.Desk.dirs g.K.Desk.held g.K.Desk.closed l.desk);
  out : g.K.Desk.out l.desk + length done ≡ g.K.Desk.out l.fn.desk;
  dirs_out : g.K.Desk.dirs_out l.desk ≡ g.K.Desk.dirs_out l.fn.desk;
}

abbrev pub decreases-loop-client : goal.decreases-loop-client
decreases-loop-client g l = length l.clients.items
