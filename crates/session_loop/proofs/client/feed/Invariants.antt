-- The lines so far are taken.
use Rattle.std.proofs.Common.{◌≡◌, ◌++◌, List, [], ℕ, length}
use Rattle.shard_disk.specs.Health.{Ages}
use Rattle.session_loop.specs.Progress.{HoldsLast, Takes, moment}
use Rattle.session_loop.proofs.client.feed.Given as goal

abbrev pub invariant-lines : goal.invariant-lines
invariant-lines g l = record {
  front : List ℕ;
  whole : l.piece ≡ front ++ l.rest;
  taken : (before : List ℕ) → HoldsLast l.fn.pending before → Takes (moment g.S.Store.told g.S.Store.health g.K.Sink.written g.C.Clock.moments l.fn.session l.fn.store l.fn.sink l.fn.clock)
      (moment g.S.Store.told g.S.Store.health g.K.Sink.written g.C.Clock.moments l.session l.store l.sink l.clock) l.pending before front;
  still : g.K.Sink.health l.sink ≡ g.K.Sink.health l.fn.sink;
  ages : Ages (g.K.Sink.health l.fn.sink) (g.K.Sink.health l.sink);
  none_out : (g.S.Store.told l.store).out ≡ [];
}

abbrev pub decreases-lines : goal.decreases-lines
decreases-lines g l = length l.rest
