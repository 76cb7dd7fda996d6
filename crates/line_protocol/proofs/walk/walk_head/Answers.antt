use Rattle.std.proofs.Common.{◌≢◌, ℕ, false, List, sym, subst, ◌∙◌}
use Rattle.std.specs.List.{All}
use Rattle.tsdb_types.specs.Series.{measurement_ends_at}
use Rattle.tsdb_types.specs.Spelled.{EndsName}
use Rattle.line_protocol.proofs.TokenLemmas.{rest-ends, rest-unbroken}
use Rattle.line_protocol.proofs.WalkTagLemmas.{no-measurement, bad-tag, head-walked, behind-le}
use Rattle.line_protocol.proofs.walk.walk_head.Goals as goal

pub walk_tags-requires-clause-start : goal.walk_tags-requires-clause-start
walk_tags-requires-clause-start c = subst (EndsName measurement_ends_at) (sym c.cut_token.ensures.rest) (rest-ends measurement_ends_at false c.args.line.now)

pub walk_tags-requires-clause-unbroken : goal.walk_tags-requires-clause-unbroken
walk_tags-requires-clause-unbroken c =
    subst (λ (t : List ℕ). All (λ byte. byte ≢ 10) t) (sym c.cut_token.ensures.rest) (rest-unbroken measurement_ends_at false c.args.line.now c.requires)

pub overflow_sub-line : goal.overflow_sub-line
overflow_sub-line c =
    behind-le c.args.line.now c.cut_token.result.1.now c.in-Some.walk.behind.now c.in-Some.walk.ascend c.in-Some.walk.reserved c.cut_token.ensures.rest c.in-Some.ensures.found

pub returns-then-is_empty-clause-refused : goal.returns-then-is_empty-clause-refused
returns-then-is_empty-clause-refused c = no-measurement c.args.line.now c.cut_token.result.0.now c.cut_token.ensures.front (sym c.is_empty.ensures ∙ c.if-is_empty.true)

pub returns-in-None-clause-refused : goal.returns-in-None-clause-refused
returns-in-None-clause-refused c =
    bad-tag c.args.line.now c.cut_token.result.0.now c.cut_token.result.1.now c.cut_token.ensures.front c.cut_token.ensures.rest (sym c.is_empty.ensures ∙ c.if-is_empty.false) c.in-None.ensures.none

pub returns-in-Some-clause-ok : goal.returns-in-Some-clause-ok
returns-in-Some-clause-ok c =
    head-walked c.args.line.now c.cut_token.result.0.now c.cut_token.result.1.now c.split_at.result.0.now c.in-Some.walk.behind.now c.split_at.result.1.now c.in-Some.walk.ascend c.in-Some.walk.reserved
    c.requires c.cut_token.ensures.front c.cut_token.ensures.rest (sym c.is_empty.ensures ∙ c.if-is_empty.false) c.in-Some.ensures.found c.split_at.ensures.front c.split_at.ensures.back
