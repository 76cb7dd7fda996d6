use Rattle.std.proofs.Common.{sym, ◌∙◌}
use Rattle.line_protocol.proofs.LineLemmas.{filled-none}
use Rattle.line_protocol.proofs.WalkLemmas.{no-key, no-equals, no-value, two-equals, tag-tokens}
use Rattle.line_protocol.proofs.walk.tag_at.Goals as goal

pub returns-then-is_empty-clause-none : goal.returns-then-is_empty-clause-none
returns-then-is_empty-clause-none c = no-key c.args.text.now c.cut_token.result.0.now c.cut_token.ensures.front (sym c.is_empty.ensures ∙ c.if-is_empty.true)

pub returns-in-None-clause-none : goal.returns-in-None-clause-none
returns-in-None-clause-none c = no-equals c.args.text.now c.cut_token.result.1.now c.cut_token.ensures.rest c.in-None.ensures.none

pub returns-then-is_empty-2-clause-none : goal.returns-then-is_empty-2-clause-none
returns-then-is_empty-2-clause-none c =
    no-value c.args.text.now c.cut_token.result.0.now c.in-Some.text.now c.cut_token-in-Some.result.0.now c.cut_token-in-Some.result.1.now
    c.cut_token.ensures.front (sym c.cut_token.ensures.rest ∙ c.in-Some.ensures.found) c.cut_token-in-Some.ensures.front c.cut_token-in-Some.ensures.rest
    (filled-none c.cut_token-in-Some.result.0.now (sym c.is_empty-in-Some.ensures ∙ c.if-is_empty-2.true))

pub returns-then-starts_with-clause-none : goal.returns-then-starts_with-clause-none
returns-then-starts_with-clause-none c =
    two-equals c.args.text.now c.cut_token.result.0.now c.in-Some.text.now c.cut_token-in-Some.result.0.now c.cut_token-in-Some.result.1.now
    c.cut_token.ensures.front (sym c.cut_token.ensures.rest ∙ c.in-Some.ensures.found) c.cut_token-in-Some.ensures.front c.cut_token-in-Some.ensures.rest
    (sym c.starts_with.ensures ∙ c.if-starts_with.true)

pub returns-else-starts_with-clause-found : goal.returns-else-starts_with-clause-found
returns-else-starts_with-clause-found c =
    tag-tokens c.args.text.now c.cut_token.result.0.now c.in-Some.text.now c.cut_token-in-Some.result.0.now c.cut_token-in-Some.result.1.now
    c.cut_token.ensures.front (sym c.cut_token.ensures.rest ∙ c.in-Some.ensures.found) c.cut_token-in-Some.ensures.front c.cut_token-in-Some.ensures.rest
    (sym c.is_empty.ensures ∙ c.if-is_empty.false) (sym c.is_empty-in-Some.ensures ∙ c.if-is_empty-2.false) (sym c.starts_with.ensures ∙ c.if-starts_with.false)
