use Rattle.std.proofs.Common.{Bool, subst, sym, ap, ◌∙◌, []}
use Rattle.engine_session.specs.Devices.{devices}
use Rattle.engine_session.specs.Serving.{Serves}
use Rattle.engine_session.proofs.ServedLemmas.{serves_none}
use Rattle.shard_steps.specs.Shards.{IsReady}
use Rattle.shard_steps.specs.declared.shard.Shard.{Shard}
use Rattle.engine_clients.specs.Served.{ServesEngineBy}
use Rattle.engine_clients.proofs.ServedLemmas.{long_left, serves_closed, unseated_left}
use Rattle.engine_clients.proofs.serving.serve.Goals as goal

pub finish-requires-clause-ready : goal.finish-requires-clause-ready
finish-requires-clause-ready g c = λ κs live. c.in-Ok.ensures.ok.ready

pub finish-requires-in-Err-clause-ready : goal.finish-requires-in-Err-clause-ready
finish-requires-in-Err-clause-ready g c = λ κs live. subst (λ (s : Shard g.row.D.Denot). IsReady g.D.Disk s) (sym c.in-Err.ensures.err.0) c.requires.ready

pub returns-in-Ok-clause-serves : goal.returns-in-Ok-clause-serves
returns-in-Ok-clause-serves g c =
    let members = devices g.S.Source.given g.S.Source.left g.S.Source.ended g.S.Source.health g.K.Sink.written g.K.Sink.health g.C.Clock.moments in
    let it = c.in-Ok.ensures.ok in
    subst (λ (b : Bool). ServesEngineBy g.D.Disk members c.args.shard c.args.clients.now.items c.serve_vec.new.clients.items c.finish.result b) (sym c.finish.ensures.served) (
      it.finished,
      it.left_are,
      it.sessions,
      it.are,
      serves_closed g.D.Disk members c.args.shard c.in-Ok.left c.args.clients.now.items c.serve_vec.new.clients.items it c.finish.result.disk c.finish.result.number c.finish.result.closed c.finish.ensures.closes c.finish.ensures.number,
    )

pub returns-in-Err-clause-serves : goal.returns-in-Err-clause-serves
returns-in-Err-clause-serves g c =
    let members = devices g.S.Source.given g.S.Source.left g.S.Source.ended g.S.Source.health g.K.Sink.written g.K.Sink.health g.C.Clock.moments in
    subst (λ (b : Bool). ServesEngineBy g.D.Disk members c.args.shard c.args.clients.now.items c.serve_vec.new.clients.items c.finish-in-Err.result b) (sym c.finish-in-Err.ensures.served) (
      c.in-Err.ensures.err.1,
      subst (λ (s : Shard g.row.D.Denot). Serves g.D.Disk [] s c.finish-in-Err.result.disk c.finish-in-Err.result.number c.finish-in-Err.result.closed) c.in-Err.ensures.err.0
          (serves_none g.D.Disk c.in-Err.left c.finish-in-Err.result.disk c.finish-in-Err.result.number c.finish-in-Err.result.closed c.finish-in-Err.ensures.number c.finish-in-Err.ensures.closes),
    )

pub returns-in-Ok-clause-unseated : goal.returns-in-Ok-clause-unseated
returns-in-Ok-clause-unseated g c =
    let members = devices g.S.Source.given g.S.Source.left g.S.Source.ended g.S.Source.health g.K.Sink.written g.K.Sink.health g.C.Clock.moments in
    unseated_left g.D.Disk members c.args.shard c.in-Ok.left c.args.clients.now.items c.serve_vec.new.clients.items c.in-Ok.ensures.ok

pub returns-in-Ok-clause-len : goal.returns-in-Ok-clause-len
returns-in-Ok-clause-len g c =
    let members = devices g.S.Source.given g.S.Source.left g.S.Source.ended g.S.Source.health g.K.Sink.written g.K.Sink.health g.C.Clock.moments in
    long_left g.D.Disk members c.args.shard c.in-Ok.left c.args.clients.now.items c.serve_vec.new.clients.items c.in-Ok.ensures.ok

pub returns-in-Ok-clause-same : goal.returns-in-Ok-clause-same
returns-in-Ok-clause-same g c = c.finish.ensures.closes.handed_out ∙ c.in-Ok.ensures.ok.same

pub returns-in-Err-clause-same : goal.returns-in-Err-clause-same
returns-in-Err-clause-same g c = c.finish-in-Err.ensures.closes.handed_out ∙ ap (λ (s : Shard g.row.D.Denot). g.D.Disk.handed_out s.logs.disk) c.in-Err.ensures.err.0
