-- What was read so far is taken.
use Rattle.std.proofs.Common.{◌≡◌, List, [], ℕ}
use Rattle.std.specs.Prelude.{None}
use Rattle.shard_disk.specs.Health.{Ages}
use Rattle.session_loop.specs.Pendings.{Pends}
use Rattle.session_loop.specs.Progress.{Gives, Takes, moment}
use Rattle.session_loop.proofs.client.run.Given as goal

abbrev pub invariant-reads : goal.invariant-reads
invariant-reads g l = record {
  none_out : (g.S.Store.told l.store).out ≡ [];
  taken : Pends l.fn.pending None [] → (read : List ℕ) × Gives (g.R.Source.given l.fn.source) (g.R.Source.given l.source) (g.R.Source.left l.fn.source) (g.R.Source.left l.source) read
      × Takes (moment g.S.Store.told g.S.Store.health g.K.Sink.written g.C.Clock.moments l.fn.session l.fn.store l.fn.sink l.fn.clock)
      (moment g.S.Store.told g.S.Store.health g.K.Sink.written g.C.Clock.moments l.session l.store l.sink l.clock) l.pending [] read;
  source_still : g.R.Source.health l.source ≡ g.R.Source.health l.fn.source;
  sink_still : g.K.Sink.health l.sink ≡ g.K.Sink.health l.fn.sink;
  source_ages : Ages (g.R.Source.health l.fn.source) (g.R.Source.health l.source);
  sink_ages : Ages (g.K.Sink.health l.fn.sink) (g.K.Sink.health l.sink);
}

abbrev pub decreases-reads : goal.decreases-reads
decreases-reads g l = g.R.Source.reads_left l.source
