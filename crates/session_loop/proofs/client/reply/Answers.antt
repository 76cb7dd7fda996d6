-- By which request has ended.
use Rattle.std.proofs.Common.{ℕ, List, sym, subst}
use Rattle.session_model.specs.Lines.Request.{Line, Batch}
use Rattle.session_loop.specs.declared.pending.Ended.{Ended}
use Rattle.session_loop.specs.LineAsItComes.{StandsFor}
use Rattle.session_loop.specs.Pendings.{HasEnded}
use Rattle.session_loop.specs.Progress.{Moment, moment}
use Rattle.session_loop.proofs.GoingLemmas.{on_ok_map, on_err_map, replied_one, stops_in_one}
use Rattle.session_loop.proofs.client.reply.Goals as goal

pub returns-in-Line-clause-ok : goal.returns-in-Line-clause-ok
returns-in-Line-clause-ok g c = on_ok_map c.reply_line.result _ _ (λ answered before after has.
    let old : Moment = moment g.S.Store.told g.S.Store.health g.K.Sink.written g.C.Clock.moments c.args.session.now c.args.store.now c.args.sink.now c.args.clock.now in
    let new : Moment = moment g.S.Store.told g.S.Store.health g.K.Sink.written g.C.Clock.moments c.reply_line.new.session c.reply_line.new.store c.reply_line.new.sink c.reply_line.new.clock in
    let ended = subst (λ (e : Ended). HasEnded e c.args.pending.now before after) c.in-Line.is has in
    replied_one old new (Line ended.0) before after ended.2
    (answered ended.0 (subst (λ (l : List ℕ). StandsFor 65536 l ended.0) (sym c.kept.ensures) ended.1))) c.reply_line.ensures.ok

pub returns-in-Line-clause-err : goal.returns-in-Line-clause-err
returns-in-Line-clause-err g c = on_err_map c.reply_line.result _ _ (λ stopped before after has.
    let old : Moment = moment g.S.Store.told g.S.Store.health g.K.Sink.written g.C.Clock.moments c.args.session.now c.args.store.now c.args.sink.now c.args.clock.now in
    let new : Moment = moment g.S.Store.told g.S.Store.health g.K.Sink.written g.C.Clock.moments c.reply_line.new.session c.reply_line.new.store c.reply_line.new.sink c.reply_line.new.clock in
    let ended = subst (λ (e : Ended). HasEnded e c.args.pending.now before after) c.in-Line.is has in
    stops_in_one old new (Line ended.0) before after ended.2
    (stopped ended.0 (subst (λ (l : List ℕ). StandsFor 65536 l ended.0) (sym c.kept.ensures) ended.1))) c.reply_line.ensures.err

pub returns-in-Batch-clause-ok : goal.returns-in-Batch-clause-ok
returns-in-Batch-clause-ok g c = on_ok_map c.reply_batch.result _ _ (λ answered before after has.
    let old : Moment = moment g.S.Store.told g.S.Store.health g.K.Sink.written g.C.Clock.moments c.args.session.now c.args.store.now c.args.sink.now c.args.clock.now in
    let new : Moment = moment g.S.Store.told g.S.Store.health g.K.Sink.written g.C.Clock.moments c.reply_batch.new.session c.reply_batch.new.store c.reply_batch.new.sink c.reply_batch.new.clock in
    let ended = subst (λ (e : Ended). HasEnded e c.args.pending.now before after) c.in-Batch.is has in
    replied_one old new (Batch ended.0 ended.1 ended.2) before after ended.4 (answered ended.0 ended.1 ended.2 ended.3)) c.reply_batch.ensures.ok

pub returns-in-Batch-clause-err : goal.returns-in-Batch-clause-err
returns-in-Batch-clause-err g c = on_err_map c.reply_batch.result _ _ (λ stopped before after has.
    let old : Moment = moment g.S.Store.told g.S.Store.health g.K.Sink.written g.C.Clock.moments c.args.session.now c.args.store.now c.args.sink.now c.args.clock.now in
    let new : Moment = moment g.S.Store.told g.S.Store.health g.K.Sink.written g.C.Clock.moments c.reply_batch.new.session c.reply_batch.new.store c.reply_batch.new.sink c.reply_batch.new.clock in
    let ended = subst (λ (e : Ended). HasEnded e c.args.pending.now before after) c.in-Batch.is has in
    stops_in_one old new (Batch ended.0 ended.1 ended.2) before after ended.4 (stopped ended.0 ended.1 ended.2 ended.3)) c.reply_batch.ensures.err
