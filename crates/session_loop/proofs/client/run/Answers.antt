-- The bytes read so far and the piece that came, or the end.
use Rattle.std.proofs.Common.{◌∙◌, ℕ, List, [], ◌++◌, take, refl, subst, ap, arith}
use Rattle.session_io.specs.declared.report.End.TheVariants.{SinkFault, Memory}
use Rattle.session_loop.specs.Progress.{Takes, Stops, moment}
use Rattle.shard_disk.proofs.HealthLemmas.{ages_still, ages_then}
use Rattle.session_loop.proofs.GoingLemmas.{grows_nothing, shrinks_nothing, gives_same, gives_more, end_told, takes_nothing, takes_more, held_nothing}
use Rattle.session_loop.proofs.EndingLemmas.{concludes_read, concludes_short, concludes_stop}
use Rattle.session_loop.proofs.client.run.Goals as goal

pub reads-init : goal.reads-init
reads-init g c = record {
  none_out = c.requires.none_out;
  taken = λ held. (
    [],
    record { given = grows_nothing (g.R.Source.given c.args.source.now); left = shrinks_nothing (g.R.Source.left c.args.source.now) },
    takes_nothing (moment g.S.Store.told g.S.Store.health g.K.Sink.written g.C.Clock.moments c.args.session.now c.args.store.now c.args.sink.now c.args.clock.now) c.args.pending.now [] (held_nothing c.args.pending.now held),
  );
  source_still = refl;
  sink_still = refl;
  source_ages = ages_still (g.R.Source.health c.args.source.now);
  sink_ages = ages_still (g.K.Sink.health c.args.sink.now);
}

pub returns-in-Ok-finish-clause-concludes : goal.returns-in-Ok-finish-clause-concludes
returns-in-Ok-finish-clause-concludes g c = λ held.
    let t = c.reads.invariant.taken held in (
      t.0,
      gives_same (g.R.Source.given c.args.source.now) (g.R.Source.given c.reads.source) (g.R.Source.given c.read.new.self) (g.R.Source.left c.args.source.now) (g.R.Source.left c.reads.source) (g.R.Source.left c.read.new.self) t.0
          (take c.in-Ok-eq0.field-0 c.read.new.buffer) (ap (λ (n : ℕ). take n c.read.new.buffer) c.in-Ok-eq0.field-0-test) t.1 c.in-Ok-eq0.ensures.given c.in-Ok-eq0.ensures.left,
      concludes_read (moment g.S.Store.told g.S.Store.health g.K.Sink.written g.C.Clock.moments c.args.session.now c.args.store.now c.args.sink.now c.args.clock.now)
          (moment g.S.Store.told g.S.Store.health g.K.Sink.written g.C.Clock.moments c.reads.session c.reads.store c.reads.sink c.reads.clock)
          (moment g.S.Store.told g.S.Store.health g.K.Sink.written g.C.Clock.moments c.finish.new.session c.finish.new.store c.finish.new.sink c.finish.new.clock) c.reads.pending t.0 (g.R.Source.ended c.read.new.self) (end_told (g.R.Source.ended c.reads.source) (g.R.Source.ended c.read.new.self) c.in-Ok-eq0.field-0 c.read.new.buffer c.in-Ok-eq0.field-0-test (omega arith) c.in-Ok-eq0.ensures.ended) t.2 (c.in-Ok-finish.ensures.ok t.0 t.2.holds),
    )

pub returns-in-Err-Fault-clause-concludes : goal.returns-in-Err-Fault-clause-concludes
returns-in-Err-Fault-clause-concludes g c = λ held.
    let t = c.reads.invariant.taken held in (
      t.0,
      gives_same (g.R.Source.given c.args.source.now) (g.R.Source.given c.reads.source) (g.R.Source.given c.read.new.self) (g.R.Source.left c.args.source.now) (g.R.Source.left c.reads.source) (g.R.Source.left c.read.new.self) t.0
          (take c.in-Ok-eq0.field-0 c.read.new.buffer) (ap (λ (n : ℕ). take n c.read.new.buffer) c.in-Ok-eq0.field-0-test) t.1 c.in-Ok-eq0.ensures.given c.in-Ok-eq0.ensures.left,
      concludes_short (moment g.S.Store.told g.S.Store.health g.K.Sink.written g.C.Clock.moments c.args.session.now c.args.store.now c.args.sink.now c.args.clock.now)
          (moment g.S.Store.told g.S.Store.health g.K.Sink.written g.C.Clock.moments c.reads.session c.reads.store c.reads.sink c.reads.clock)
          (moment g.S.Store.told g.S.Store.health g.K.Sink.written g.C.Clock.moments c.finish.new.session c.finish.new.store c.finish.new.sink c.finish.new.clock) c.reads.pending t.0 (g.R.Source.ended c.read.new.self) SinkFault (end_told (g.R.Source.ended c.reads.source) (g.R.Source.ended c.read.new.self) c.in-Ok-eq0.field-0 c.read.new.buffer c.in-Ok-eq0.field-0-test (omega arith) c.in-Ok-eq0.ensures.ended) tt t.2 (c.in-Err-Fault.ensures.err t.0 t.2.holds),
    )

pub returns-in-Err-Memory-clause-concludes : goal.returns-in-Err-Memory-clause-concludes
returns-in-Err-Memory-clause-concludes g c = λ held.
    let t = c.reads.invariant.taken held in (
      t.0,
      gives_same (g.R.Source.given c.args.source.now) (g.R.Source.given c.reads.source) (g.R.Source.given c.read.new.self) (g.R.Source.left c.args.source.now) (g.R.Source.left c.reads.source) (g.R.Source.left c.read.new.self) t.0
          (take c.in-Ok-eq0.field-0 c.read.new.buffer) (ap (λ (n : ℕ). take n c.read.new.buffer) c.in-Ok-eq0.field-0-test) t.1 c.in-Ok-eq0.ensures.given c.in-Ok-eq0.ensures.left,
      concludes_short (moment g.S.Store.told g.S.Store.health g.K.Sink.written g.C.Clock.moments c.args.session.now c.args.store.now c.args.sink.now c.args.clock.now)
          (moment g.S.Store.told g.S.Store.health g.K.Sink.written g.C.Clock.moments c.reads.session c.reads.store c.reads.sink c.reads.clock)
          (moment g.S.Store.told g.S.Store.health g.K.Sink.written g.C.Clock.moments c.finish.new.session c.finish.new.store c.finish.new.sink c.finish.new.clock) c.reads.pending t.0 (g.R.Source.ended c.read.new.self) Memory (end_told (g.R.Source.ended c.reads.source) (g.R.Source.ended c.read.new.self) c.in-Ok-eq0.field-0 c.read.new.buffer c.in-Ok-eq0.field-0-test (omega arith) c.in-Ok-eq0.ensures.ended) tt t.2 (c.in-Err-Memory.ensures.err t.0 t.2.holds),
    )

pub reads-preserved : goal.reads-preserved
reads-preserved g c = record {
  none_out = c.feed.ensures.none_out;
  taken = λ held.
      let t = c.reads.invariant.taken held in (
        t.0 ++ (take c.in-Ok.count c.read.new.buffer),
        gives_more (g.R.Source.given c.args.source.now) (g.R.Source.given c.reads.source) (g.R.Source.given c.read.new.self) (g.R.Source.left c.args.source.now) (g.R.Source.left c.reads.source) (g.R.Source.left c.read.new.self) t.0 (take c.in-Ok.count c.read.new.buffer) t.1 c.in-Ok.ensures.given c.in-Ok.ensures.left,
        takes_more (moment g.S.Store.told g.S.Store.health g.K.Sink.written g.C.Clock.moments c.args.session.now c.args.store.now c.args.sink.now c.args.clock.now)
            (moment g.S.Store.told g.S.Store.health g.K.Sink.written g.C.Clock.moments c.reads.session c.reads.store c.reads.sink c.reads.clock)
            (moment g.S.Store.told g.S.Store.health g.K.Sink.written g.C.Clock.moments c.feed.new.session c.feed.new.store c.feed.new.sink c.feed.new.clock) c.reads.pending c.feed.new.pending [] t.0 (take c.in-Ok.count c.read.new.buffer) t.2 (subst (λ (p : List ℕ). Takes (moment g.S.Store.told g.S.Store.health g.K.Sink.written g.C.Clock.moments c.reads.session c.reads.store c.reads.sink c.reads.clock)
            (moment g.S.Store.told g.S.Store.health g.K.Sink.written g.C.Clock.moments c.feed.new.session c.feed.new.store c.feed.new.sink c.feed.new.clock) c.feed.new.pending t.0 p) c.front-piece.ensures (c.in-Ok-feed.ensures.ok t.0 t.2.holds)),
      );
  source_still = c.in-Ok.ensures.fault.ok refl ∙ c.reads.invariant.source_still;
  sink_still = c.in-Ok-feed.ensures.fault.quiet (λ wrong. cc wrong) ∙ c.reads.invariant.sink_still;
  source_ages = ages_then (g.R.Source.health c.args.source.now) (g.R.Source.health c.reads.source) (g.R.Source.health c.read.new.self) c.reads.invariant.source_ages c.read.ensures.fault.ages;
  sink_ages = ages_then (g.K.Sink.health c.args.sink.now) (g.K.Sink.health c.reads.sink) (g.K.Sink.health c.feed.new.sink) c.reads.invariant.sink_ages c.feed.ensures.fault.ages;
}

pub returns-in-Err-Fault-feed-clause-concludes : goal.returns-in-Err-Fault-feed-clause-concludes
returns-in-Err-Fault-feed-clause-concludes g c = λ held.
    let t = c.reads.invariant.taken held in (
      t.0 ++ (take c.in-Ok.count c.read.new.buffer),
      gives_more (g.R.Source.given c.args.source.now) (g.R.Source.given c.reads.source) (g.R.Source.given c.read.new.self) (g.R.Source.left c.args.source.now) (g.R.Source.left c.reads.source) (g.R.Source.left c.read.new.self) t.0 (take c.in-Ok.count c.read.new.buffer) t.1 c.in-Ok.ensures.given c.in-Ok.ensures.left,
      concludes_stop (moment g.S.Store.told g.S.Store.health g.K.Sink.written g.C.Clock.moments c.args.session.now c.args.store.now c.args.sink.now c.args.clock.now)
          (moment g.S.Store.told g.S.Store.health g.K.Sink.written g.C.Clock.moments c.reads.session c.reads.store c.reads.sink c.reads.clock)
          (moment g.S.Store.told g.S.Store.health g.K.Sink.written g.C.Clock.moments c.feed.new.session c.feed.new.store c.feed.new.sink c.feed.new.clock) c.reads.pending t.0 (take c.in-Ok.count c.read.new.buffer) (g.R.Source.ended c.read.new.self) SinkFault tt t.2 (subst (λ (p : List ℕ). Stops (moment g.S.Store.told g.S.Store.health g.K.Sink.written g.C.Clock.moments c.reads.session c.reads.store c.reads.sink c.reads.clock)
          (moment g.S.Store.told g.S.Store.health g.K.Sink.written g.C.Clock.moments c.feed.new.session c.feed.new.store c.feed.new.sink c.feed.new.clock) t.0 p) c.front-piece.ensures (c.in-Err-Fault-feed.ensures.err t.0 t.2.holds)),
    )

pub returns-in-Err-Memory-feed-clause-concludes : goal.returns-in-Err-Memory-feed-clause-concludes
returns-in-Err-Memory-feed-clause-concludes g c = λ held.
    let t = c.reads.invariant.taken held in (
      t.0 ++ (take c.in-Ok.count c.read.new.buffer),
      gives_more (g.R.Source.given c.args.source.now) (g.R.Source.given c.reads.source) (g.R.Source.given c.read.new.self) (g.R.Source.left c.args.source.now) (g.R.Source.left c.reads.source) (g.R.Source.left c.read.new.self) t.0 (take c.in-Ok.count c.read.new.buffer) t.1 c.in-Ok.ensures.given c.in-Ok.ensures.left,
      concludes_stop (moment g.S.Store.told g.S.Store.health g.K.Sink.written g.C.Clock.moments c.args.session.now c.args.store.now c.args.sink.now c.args.clock.now)
          (moment g.S.Store.told g.S.Store.health g.K.Sink.written g.C.Clock.moments c.reads.session c.reads.store c.reads.sink c.reads.clock)
          (moment g.S.Store.told g.S.Store.health g.K.Sink.written g.C.Clock.moments c.feed.new.session c.feed.new.store c.feed.new.sink c.feed.new.clock) c.reads.pending t.0 (take c.in-Ok.count c.read.new.buffer) (g.R.Source.ended c.read.new.self) Memory tt t.2 (subst (λ (p : List ℕ). Stops (moment g.S.Store.told g.S.Store.health g.K.Sink.written g.C.Clock.moments c.reads.session c.reads.store c.reads.sink c.reads.clock)
          (moment g.S.Store.told g.S.Store.health g.K.Sink.written g.C.Clock.moments c.feed.new.session c.feed.new.store c.feed.new.sink c.feed.new.clock) t.0 p) c.front-piece.ensures (c.in-Err-Memory-feed.ensures.err t.0 t.2.holds)),
    )
