-- The reply that was written, whole or in part.
use Rattle.std.proofs.Common.{ℕ, ℤ, List, refl, subst}
use Rattle.session_io.specs.Streams.{Grows}
use Rattle.session_model.specs.Lines.{Request}
use Rattle.session_loop.specs.Steps.{ReadMeans}
use Rattle.session_loop.specs.Progress.{Saying, WritesFront, saying}
use Rattle.session_loop.proofs.GoingLemmas.{on_err}
use Rattle.session_loop.proofs.AnsweringLemmas.{answers, breaks_off}
use Rattle.session_loop.proofs.client.answer.Goals as goal

pub returns-in_err-write_all-clause-err : goal.returns-in_err-write_all-clause-err
returns-in_err-write_all-clause-err g c = on_err c.from_residual.result _ (λ (request : Request) (at : ℤ) (means : ReadMeans c.args.asked request at).
    let old : Saying = saying g.S.Store.told g.S.Store.health g.K.Sink.written c.args.session.now c.args.store.now c.args.sink.now in
    let new : Saying = record {
      store = record { told = g.S.Store.told c.serve_read-told.new.store; health = g.S.Store.health c.serve_read-told.new.store };
      replies = c.args.session.now.replies;
      last = c.greatest-session.result;
      written = g.K.Sink.written c.write_all.new.sink;
    } in
    breaks_off old new c.args.asked c.serve_read-told.new.text c.serve_read-told.result c.serve_read-told.ensures.served
    (subst (λ (l : List ℕ). WritesFront old.written new.written l) c.bytes.ensures c.in_err-write_all.ensures.err) refl c.greatest-session.ensures request at means)

pub returns-clause-ok : goal.returns-clause-ok
returns-clause-ok g c = λ request at means.
    let old : Saying = saying g.S.Store.told g.S.Store.health g.K.Sink.written c.args.session.now c.args.store.now c.args.sink.now in
    let new : Saying = record {
      store = record { told = g.S.Store.told c.serve_read-told.new.store; health = g.S.Store.health c.serve_read-told.new.store };
      replies = c.saturating_add-session.result;
      last = c.greatest-session.result;
      written = g.K.Sink.written c.write_all.new.sink;
    } in
    answers old new c.args.asked c.serve_read-told.new.text c.serve_read-told.result c.serve_read-told.ensures.served
    (subst (λ (l : List ℕ). Grows old.written new.written l) c.bytes.ensures c.in_ok-write_all.ensures.ok) c.saturating_add-session.ensures c.greatest-session.ensures request at means
