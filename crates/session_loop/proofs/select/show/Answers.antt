-- By the ranges of its numbers, and by its names.
use Rattle.std.proofs.Common.{subst, sym, Result, IfOk, All, Vec, Global}
use Rattle.tsdb_types.specs.declared.time.Time.{Time}
use Rattle.tsdb_types.specs.declared.value.Value.{Value}
use Rattle.point_model.specs.declared.fault.CursorFault.{CursorFault}
use Rattle.session_model.specs.Readable.{IsReadable}
use Rattle.session_loop.specs.Merged.{IsReadableFound}
use Rattle.session_loop.specs.Texts.{reply_of_view}
use Rattle.session_loop.proofs.SelectLemmas.{found_readable}
use Rattle.session_loop.proofs.select.show.Goals as goal

pub returns-in-Ok-clause-readable : goal.returns-in-Ok-clause-readable
returns-in-Ok-clause-readable c =
    let number = c.args.number in
    let measurement = c.args.measurement.now in
    let field = c.args.field.now in
    let rows = c.in-Ok.rows in
    subst (λ (r : Result (Vec (Time × Value) Global) CursorFault). IsReadable (reply_of_view (λ v. v.items) number measurement field r)) (sym c.in-Ok.is)
    (found_readable number measurement field rows.items c.ranges.number.fits c.one_line.ensures c.one_line-in-Ok.ensures
    (subst (λ (r : Result (Vec (Time × Value) Global) CursorFault). IfOk r (λ v. All IsReadableFound v.items)) c.in-Ok.is c.requires))
