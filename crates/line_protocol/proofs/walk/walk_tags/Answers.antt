use Rattle.line_protocol.proofs.WalkTagLemmas.{left-all, left-next, left-end, left-bad, tag-shorter}
use Rattle.line_protocol.proofs.walk.walk_tags.Goals as goal

pub tags-init : goal.tags-init
tags-init c = left-all c.args.text.now c.requires.start c.requires.unbroken

pub returns-in-None-clause-none : goal.returns-in-None-clause-none
returns-in-None-clause-none c =
    left-bad c.args.text.now c.tags.last.now c.tags.left.now c.in-Some.behind.now c.tags.ascend c.tags.reserved c.tags.invariant c.in-Some.ensures.found c.in-None.ensures.none

pub tags-smaller : goal.tags-smaller
tags-smaller c = tag-shorter c.tags.left.now c.in-Some.behind.now c.in-Some-tag_at.key.now c.in-Some-tag_at.rest.now c.in-Some.ensures.found c.in-Some-tag_at.ensures.found

pub tags-preserved : goal.tags-preserved
tags-preserved c =
    left-next c.args.text.now c.tags.last.now c.tags.left.now c.in-Some.behind.now c.in-Some-tag_at.key.now c.in-Some-tag_at.rest.now c.tags.ascend c.tags.reserved c.goes_on-ascend.result c.either_time-reserved.result
    c.tags.invariant c.in-Some.ensures.found c.in-Some-tag_at.ensures.found c.goes_on-ascend.ensures.before c.goes_on-ascend.ensures.below c.either_time-reserved.ensures

pub returns-clause-found : goal.returns-clause-found
returns-clause-found c =
    left-end c.args.text.now c.tags.last.now c.tags.left.now c.tags.ascend c.tags.reserved c.tags.invariant c.in_default.ensures.none
