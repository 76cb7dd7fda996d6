-- The input ends a request, or none.
use Rattle.std.proofs.Common.{sym, subst, List}
use Rattle.session_model.specs.Lines.{Request, cut_of, last_line, ended_requests}
use Rattle.session_loop.specs.Progress.{Moment, Replied, StopsIn, moment}
use Rattle.session_loop.proofs.CuttingLemmas.{requests_are}
use Rattle.session_loop.proofs.GoingLemmas.{on_ok_map, on_err_map}
use Rattle.session_loop.proofs.client.finish.Goals as goal

pub returns-clause-ok : goal.returns-clause-ok
returns-clause-ok g c = on_ok_map c.reply.result _ _ (λ replied before held.
    let old : Moment = moment g.S.Store.told g.S.Store.health g.K.Sink.written g.C.Clock.moments c.args.session.now c.args.store.now c.args.sink.now c.args.clock.now in
    let new : Moment = moment g.S.Store.told g.S.Store.health g.K.Sink.written g.C.Clock.moments c.reply.new.session c.reply.new.store c.reply.new.sink c.reply.new.clock in
    let cut = cut_of before in
    subst (λ (all : List Request). Replied old new (ended_requests before) all) (sym (requests_are before held.lines held.last held.cut))
    (replied cut.requests (last_line cut.requests cut.open_batch held.last) (c.end_input-ended.ensures cut.requests cut.open_batch held.last held.pends)))
    c.reply.ensures.ok

pub returns-clause-err : goal.returns-clause-err
returns-clause-err g c = on_err_map c.reply.result _ _ (λ stopped before held.
    let old : Moment = moment g.S.Store.told g.S.Store.health g.K.Sink.written g.C.Clock.moments c.args.session.now c.args.store.now c.args.sink.now c.args.clock.now in
    let new : Moment = moment g.S.Store.told g.S.Store.health g.K.Sink.written g.C.Clock.moments c.reply.new.session c.reply.new.store c.reply.new.sink c.reply.new.clock in
    let cut = cut_of before in
    subst (λ (all : List Request). StopsIn old new (ended_requests before) all) (sym (requests_are before held.lines held.last held.cut))
    (stopped cut.requests (last_line cut.requests cut.open_batch held.last) (c.end_input-ended.ensures cut.requests cut.open_batch held.last held.pends)))
    c.reply.ensures.err
