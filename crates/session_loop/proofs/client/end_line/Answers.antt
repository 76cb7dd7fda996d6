-- The line and its newline end a request, or none.
use Rattle.std.proofs.Common.{◌++◌}
use Rattle.session_model.specs.Lines.{cut_of, with_line}
use Rattle.session_loop.specs.Progress.{Moment, moment}
use Rattle.session_loop.proofs.GoingLemmas.{on_ok_map, on_err_map, takes_line, stops_line}
use Rattle.session_loop.proofs.client.end_line.Goals as goal

pub returns-clause-ok : goal.returns-clause-ok
returns-clause-ok g c = on_ok_map c.reply-outcome.result _ _ (λ replied before held.
    let old : Moment = moment g.S.Store.told g.S.Store.health g.K.Sink.written g.C.Clock.moments c.args.session.now c.args.store.now c.args.sink.now c.args.clock.now in
    let new : Moment = moment g.S.Store.told g.S.Store.health g.K.Sink.written g.C.Clock.moments c.reply-outcome.new.session c.reply-outcome.new.store c.reply-outcome.new.sink c.reply-outcome.new.clock in
    let cut = cut_of before in
    let pends = c.extend.ensures cut.open_batch held.last held.pends in
    takes_line old new c.args.pending.now c.clear.new.self before c.args.end.now c.requires.line held
    (replied cut.requests (with_line cut (held.last ++ c.args.end.now)).requests (c.end_line-ended.ensures.ended cut.requests cut.open_batch (held.last ++ c.args.end.now) pends))
    (c.clear.ensures (with_line cut (held.last ++ c.args.end.now)).open_batch (c.end_line-ended.ensures.left cut.requests cut.open_batch (held.last ++ c.args.end.now) pends)))
    c.reply-outcome.ensures.ok

pub returns-clause-err : goal.returns-clause-err
returns-clause-err g c = on_err_map c.reply-outcome.result _ _ (λ stopped before held.
    let old : Moment = moment g.S.Store.told g.S.Store.health g.K.Sink.written g.C.Clock.moments c.args.session.now c.args.store.now c.args.sink.now c.args.clock.now in
    let new : Moment = moment g.S.Store.told g.S.Store.health g.K.Sink.written g.C.Clock.moments c.reply-outcome.new.session c.reply-outcome.new.store c.reply-outcome.new.sink c.reply-outcome.new.clock in
    let cut = cut_of before in
    let pends = c.extend.ensures cut.open_batch held.last held.pends in
    stops_line old new c.args.pending.now before c.args.end.now c.requires.line held
    (stopped cut.requests (with_line cut (held.last ++ c.args.end.now)).requests (c.end_line-ended.ensures.ended cut.requests cut.open_batch (held.last ++ c.args.end.now) pends)))
    c.reply-outcome.ensures.err
