-- What was read of the line is what it asks for.
use Rattle.session_model.specs.Lines.Request.{Line}
use Rattle.session_loop.proofs.GoingLemmas.{on_ok_map, on_err_map}
use Rattle.session_loop.proofs.AnsweringLemmas.{line_means}
use Rattle.session_loop.proofs.client.reply_line.Goals as goal

pub returns-clause-ok : goal.returns-clause-ok
returns-clause-ok g c = on_ok_map c.answer.result _ _ (λ answered text stands. record {
  at = c.now-moment.result;
  moments = c.now-moment.ensures.moments;
  answers = answered (Line text) c.now-moment.result (line_means c.read_line-asked.result c.args.line.now text c.now-moment.result c.read_line-asked.ensures.means stands);
}) c.answer.ensures.ok

pub returns-clause-err : goal.returns-clause-err
returns-clause-err g c = on_err_map c.answer.result _ _ (λ broken text stands. record {
  at = c.now-moment.result;
  moments = c.now-moment.ensures.moments;
  breaks_off = broken (Line text) c.now-moment.result (line_means c.read_line-asked.result c.args.line.now text c.now-moment.result c.read_line-asked.ensures.means stands);
}) c.answer.ensures.err
