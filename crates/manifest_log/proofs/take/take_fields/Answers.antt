use Rattle.std.proofs.Common.{sym, ap, rules}
use Rattle.manifest_log.proofs.ChangeLemmas.{if_none, if_none_from, width, cut, strange}
use Rattle.manifest_log.proofs.take.take_fields.Goals as goal

pub returns-in_err-no-in-1-clause-none : goal.returns-in_err-no-in-1-clause-none
returns-in_err-no-in-1-clause-none c = if_none c.from_residual.result (cut c.args.kind 4 c.args.fields.now (sym (ap width c.in-1.is)) c.in_err-no-in-1.ensures.cut)

pub returns-in_err-no-in-2-clause-none : goal.returns-in_err-no-in-2-clause-none
returns-in_err-no-in-2-clause-none c = if_none c.from_residual-in_err-no-in-2.result (cut c.args.kind 4 c.args.fields.now (sym (ap width c.in-2.is)) c.in_err-no-in-2.ensures.cut)

pub returns-in_err-no-in-4-clause-none : goal.returns-in_err-no-in-4-clause-none
returns-in_err-no-in-4-clause-none c = if_none c.from_residual-in_err-no-in-4.result (cut c.args.kind 4 c.args.fields.now (sym (ap width c.in-4.is)) c.in_err-no-in-4.ensures.cut)

pub returns-in_err-no-in-5-clause-none : goal.returns-in_err-no-in-5-clause-none
returns-in_err-no-in-5-clause-none c = if_none c.from_residual-in_err-no-in-5.result (cut c.args.kind 8 c.args.fields.now (sym (ap width c.in-5.is)) c.in_err-no-in-5.ensures.cut)

pub returns-in_err-number-in-6-clause-none : goal.returns-in_err-number-in-6-clause-none
returns-in_err-number-in-6-clause-none c = if_none c.from_residual-in_err-number-in-6.result (cut c.args.kind 8 c.args.fields.now (sym (ap width c.in-6.is)) c.in_err-number-in-6.ensures.cut)

pub returns-in_err-no-in-7-clause-none : goal.returns-in_err-no-in-7-clause-none
returns-in_err-no-in-7-clause-none c = if_none c.from_residual-in_err-no-in-7.result (cut c.args.kind 4 c.args.fields.now (sym (ap width c.in-7.is)) c.in_err-no-in-7.ensures.cut)

pub returns-in_err-log-in-8-clause-none : goal.returns-in_err-log-in-8-clause-none
returns-in_err-log-in-8-clause-none c = if_none c.from_residual-in_err-log-in-8.result (cut c.args.kind 8 c.args.fields.now (sym (ap width c.in-8.is)) c.in_err-log-in-8.ensures.cut)

pub returns-in-3-clause-none : goal.returns-in-3-clause-none
returns-in-3-clause-none c = if_none_from c.take_file.result (λ short. cut c.args.kind 33 c.args.fields.now (sym (ap width c.in-3.is)) short) c.take_file.ensures.cut

pub returns-in_default-clause-none : goal.returns-in_default-clause-none
returns-in_default-clause-none c = strange c.args.kind c.args.fields.now (λ low high. search (rules, low, high))
