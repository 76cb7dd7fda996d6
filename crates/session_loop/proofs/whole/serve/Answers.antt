-- What the session came to.
use Rattle.std.proofs.Common.{refl}
use Rattle.session_loop.specs.Progress.{Moment, moment}
use Rattle.session_loop.specs.Sessions.{Told, told}
use Rattle.session_loop.specs.Steps.{Stored, stored}
use Rattle.session_loop.proofs.StepLemmas.{keeps_still}
use Rattle.session_loop.proofs.ServingLemmas.{still_kept}
use Rattle.session_loop.proofs.ConcludingLemmas.{concluded}
use Rattle.session_loop.proofs.whole.serve.Goals as goal

pub returns-clause-served : goal.returns-clause-served
returns-clause-served g c =
    let asked : Stored = stored g.S.Store.told g.S.Store.health c.args.store.now in
    let run = c.run-end.ensures.concludes c.requires.pending in
    let a : Moment = record {
      saying = record { store = asked; replies = 0; last = c.args.opening; written = g.K.Sink.written c.args.sink.now };
      moments = g.C.Clock.moments c.args.clock.now;
    } in
    let new : Moment = moment g.S.Store.told g.S.Store.health g.K.Sink.written g.C.Clock.moments c.run-end.new.session c.run-end.new.store c.run-end.new.sink c.run-end.new.clock in
    let before : Told = told g.R.Source.given g.R.Source.left g.R.Source.ended g.K.Sink.written g.C.Clock.moments c.args.source.now c.args.sink.now c.args.clock.now in
    let now : Told = told g.R.Source.given g.R.Source.left g.R.Source.ended g.K.Sink.written g.C.Clock.moments c.run-end.new.source c.run-end.new.sink c.run-end.new.clock in
    concluded asked a new run.0 (record { requests = c.run-end.new.session.replies; last = c.run-end.new.session.last; end = c.run-end.result })
    (keeps_still asked.told) (still_kept asked) refl refl c.requires.opening before now run.2 refl refl run.1 c.run-end.ensures.all_read refl refl refl refl
