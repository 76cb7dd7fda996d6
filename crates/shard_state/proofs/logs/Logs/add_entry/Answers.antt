use Rattle.std.proofs.Common.{◌+◌, refl, ap, Ok, Err}
use Rattle.std.proofs.lemmas.Result.{err_from_is_err_and}
use Rattle.wal_store.specs.Segments.{Segments}
use Rattle.shard_state.proofs.Entering.{adds_entry}
use Rattle.shard_state.proofs.logs.Logs.add_entry.Goals as goal

pub returns-in_err-append-clause-adds : goal.returns-in_err-append-clause-adds
returns-in_err-append-clause-adds g c =
    let p = err_from_is_err_and c.from_residual.result c.from_residual.ensures.1 in
    rw (p.1, p.2) (adds_entry g.D.Disk c.args.self.now c.append.new.disk c.append.new.self c.args.self.now.number (Err c.in_err-append.field-0.0) c.args.added.now c.requires.number c.in_err-append.ensures.log
    (ap (λ (w : Segments). w.files) {y = record c.args.self.now.wal { log = c.append.new.self.log }} c.in_err-append.ensures.refused) (record {}) refl)

pub returns-clause-adds : goal.returns-clause-adds
returns-clause-adds g c =
    adds_entry g.D.Disk c.args.self.now c.append.new.disk c.append.new.self (c.args.self.now.number + 1) (Ok tt) c.args.added.now c.requires.number c.in_ok-append.ensures.log (ap (λ (w : Segments). w.files) c.in_ok-append.ensures.ok) refl (record {})
