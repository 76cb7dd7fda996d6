-- What was read of the BATCH is what it asks for.
use Rattle.session_model.specs.Lines.Request.{Batch}
use Rattle.session_loop.proofs.GoingLemmas.{on_ok_map, on_err_map}
use Rattle.session_loop.proofs.AnsweringLemmas.{batch_means}
use Rattle.session_loop.proofs.client.reply_batch.Goals as goal

pub returns-clause-ok : goal.returns-clause-ok
returns-clause-ok g c = on_ok_map c.answer.result _ _ (λ answered count lines rest gathers. record {
  at = c.now-moment.result;
  moments = c.now-moment.ensures.moments;
  answers = answered (Batch count lines rest) c.now-moment.result (batch_means c.read_gathered-asked.result c.args.batch.now count lines rest c.now-moment.result c.read_gathered-asked.ensures.means gathers);
}) c.answer.ensures.ok

pub returns-clause-err : goal.returns-clause-err
returns-clause-err g c = on_err_map c.answer.result _ _ (λ broken count lines rest gathers. record {
  at = c.now-moment.result;
  moments = c.now-moment.ensures.moments;
  breaks_off = broken (Batch count lines rest) c.now-moment.result (batch_means c.read_gathered-asked.result c.args.batch.now count lines rest c.now-moment.result c.read_gathered-asked.ensures.means gathers);
}) c.answer.ensures.err
