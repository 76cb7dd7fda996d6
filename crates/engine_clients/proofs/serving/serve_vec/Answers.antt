-- The slice is the whole vector.
use Rattle.std.proofs.Common.{◌≡◌, List, length, sym, ap, ◌∙◌, subst}
use Rattle.std.specs.Prelude.{IfErr, IfOk}
use Rattle.engine_session.specs.Devices.{devices}
use Rattle.shard_steps.specs.declared.shard.Shard.{Shard}
use Rattle.engine_clients.specs.Seats.{Served}
use Rattle.engine_clients.specs.Served.{ServesTogether}
use Rattle.engine_clients.proofs.SeatLemmas.{whole_slice}
use Rattle.engine_clients.proofs.serving.serve_vec.Goals as goal

pub returns-clause-ok : goal.returns-clause-ok
returns-clause-ok g c =
    let members = devices g.S.Source.given g.S.Source.left g.S.Source.ended g.S.Source.health g.K.Sink.written g.K.Sink.health g.C.Clock.moments in
    let v = c.args.clients.now in
    let whole = whole_slice c.serve_together.new.clients v.items v.len (c.serve_together.auto.clients ∙ ap length c.as_mut_slice.ensures.value) v.ok.0 in
    subst (λ (l : List (Served g.row.D.Denot g.row.S.Denot g.row.K.Denot g.row.C.Denot)). IfOk c.serve_together.result (λ (left : Shard g.row.D.Denot). ServesTogether g.D.Disk members c.args.shard left v.items l)) (sym whole)
    (subst (λ (l : List (Served g.row.D.Denot g.row.S.Denot g.row.K.Denot g.row.C.Denot)). IfOk c.serve_together.result (λ (left : Shard g.row.D.Denot). ServesTogether g.D.Disk members c.args.shard left l c.serve_together.new.clients))
    c.as_mut_slice.ensures.value c.serve_together.ensures.ok)

pub returns-clause-err : goal.returns-clause-err
returns-clause-err g c =
    let v = c.args.clients.now in
    let whole = whole_slice c.serve_together.new.clients v.items v.len (c.serve_together.auto.clients ∙ ap length c.as_mut_slice.ensures.value) v.ok.0 in
    subst (λ (l : List (Served g.row.D.Denot g.row.S.Denot g.row.K.Denot g.row.C.Denot)). IfErr c.serve_together.result (λ (left : Shard g.row.D.Denot). (left ≡ c.args.shard) × (l ≡ v.items))) (sym whole)
    (subst (λ (l : List (Served g.row.D.Denot g.row.S.Denot g.row.K.Denot g.row.C.Denot)). IfErr c.serve_together.result (λ (left : Shard g.row.D.Denot). (left ≡ c.args.shard) × (c.serve_together.new.clients ≡ l)))
    c.as_mut_slice.ensures.value c.serve_together.ensures.err)
