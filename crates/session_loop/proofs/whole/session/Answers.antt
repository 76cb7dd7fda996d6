-- The store is asked for its number first.
use Rattle.std.proofs.Common.{sym, subst}
use Rattle.session_io.specs.declared.report.Report.{Report}
use Rattle.session_loop.specs.Sessions.{Told, IsSession, told}
use Rattle.session_loop.specs.Steps.{Stored, stored}
use Rattle.session_loop.proofs.ConcludingLemmas.{nothing_served, asked_before}
use Rattle.session_loop.proofs.whole.session.Goals as goal

pub returns-in-Err-clause-served : goal.returns-in-Err-clause-served
returns-in-Err-clause-served g c =
    let first : Stored = stored g.S.Store.told g.S.Store.health c.args.store.now in
    let asked : Stored = stored g.S.Store.told g.S.Store.health c.number-opening.new.self in
    let now : Told = told g.R.Source.given g.R.Source.left g.R.Source.ended g.K.Sink.written g.C.Clock.moments c.args.source.now c.args.sink.now c.args.clock.now in
    subst (λ (r : Report). IsSession now now first asked r) (sym c.unserved.ensures)
    (nothing_served first asked now c.number-opening.result c.number-opening.ensures.kept c.number-opening.ensures.alike c.number-opening.ensures.health c.number-opening.ensures.number)

pub returns-in-Ok-clause-served : goal.returns-in-Ok-clause-served
returns-in-Ok-clause-served g c =
    let first : Stored = stored g.S.Store.told g.S.Store.health c.args.store.now in
    let asked : Stored = stored g.S.Store.told g.S.Store.health c.number-opening.new.self in
    let new : Stored = stored g.S.Store.told g.S.Store.health c.serve.new.store in
    let before : Told = told g.R.Source.given g.R.Source.left g.R.Source.ended g.K.Sink.written g.C.Clock.moments c.args.source.now c.args.sink.now c.args.clock.now in
    let now : Told = told g.R.Source.given g.R.Source.left g.R.Source.ended g.K.Sink.written g.C.Clock.moments c.serve.new.source c.serve.new.sink c.serve.new.clock in
    asked_before first asked new before now c.serve.result c.number-opening.ensures.kept c.number-opening.ensures.alike c.number-opening.ensures.health c.serve.ensures.served
