-- The first clients are open, and there is room for the others.
use Rattle.std.proofs.Common.{◌≡◌, ◌+◌, ◌≤◌, ◌++◌, List, length, map, All}
use Rattle.std.specs.Vec.{vec_capacity, vec_len}
use Rattle.engine_session.specs.Devices.{devices}
use Rattle.engine_clients.specs.Served.{client_of}
use Rattle.tsm_server.specs.Directories.{OpensClients, seen}
use Rattle.tsm_server.specs.Seats.{IsNew}
use Rattle.tsm_server.specs.Words.{Names, names_in}
use Rattle.tsm_server.proofs.clients.open_clients.Given as goal

abbrev pub invariant-loop-input : goal.invariant-loop-input
invariant-loop-input g l = record {
  front : List Names;
  whole : names_in l.names ≡ front ++ names_in l.rest;
  opens : OpensClients (devices g.K.Source.Source.given g.K.Source.Source.left g.K.Source.Source.ended g.K.Source.Source.health g.K.Sink.Sink.written g.K.Sink.Sink.health g.K.Clock.Clock.moments) front (map client_of l.clients.items)
      (seen g.K.Desk.health g.K.Desk.dirs g.K.Desk.held g.K.Desk.closed l.fn.desk) (seen g.K.Desk.health g.K.Desk.dirs g.K.Desk.held g.K.Desk.closed l.desk);
  new : All IsNew l.clients.items;
  room : vec_len l.clients + length l.rest ≤ vec_capacity l.clients;
  out : g.K.Desk.out l.desk ≡ g.K.Desk.out l.fn.desk + length l.clients.items;
  dirs_out : g.K.Desk.dirs_out l.desk ≡ g.K.Desk.dirs_out l.fn.desk;
}

abbrev pub decreases-loop-input : goal.decreases-loop-input
decreases-loop-input g l = length l.rest
