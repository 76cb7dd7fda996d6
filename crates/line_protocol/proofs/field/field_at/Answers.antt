use Rattle.std.proofs.Common.{sym, ◌∙◌}
use Rattle.line_protocol.proofs.WalkLemmas.{key-where, field-value, field-rest}
use Rattle.line_protocol.proofs.field.field_at.Goals as goal

pub returns-clause-key : goal.returns-clause-key
returns-clause-key c = c.cut_token.ensures.front ∙ sym (key-where c.args.text.now)

pub returns-clause-value : goal.returns-clause-value
returns-clause-value c = c.behind_first.ensures ∙ field-value c.args.text.now c.cut_token.result.1.now c.cut_token-2.result.0.now c.cut_token.ensures.rest c.cut_token-2.ensures.front

pub returns-clause-rest : goal.returns-clause-rest
returns-clause-rest c = field-rest c.args.text.now c.cut_token.result.1.now c.cut_token-2.result.1.now c.cut_token.ensures.rest c.cut_token-2.ensures.rest
