use Rattle.std.proofs.Common.{sym, ◌∙◌, arith}
use Rattle.point_cache.proofs.OrderLemmas.{range_within, range_empty, drop_front}
use Rattle.point_view.proofs.places.range_of.Goals as goal

pub returns-then-first-end-clause-within : goal.returns-then-first-end-clause-within
returns-then-first-end-clause-within c = (range_within c.args.from c.args.to c.args.points.now c.before-first.result c.up_to-end.result c.if-first-end.true c.before-first.ensures.before c.before-first.ensures.behind c.up_to-end.ensures.before c.up_to-end.ensures.behind).0

pub returns-else-first-end-clause-within : goal.returns-else-first-end-clause-within
returns-else-first-end-clause-within c = drop_front c.args.points.now c.before-first.result ∙ sym (range_empty c.args.from c.args.to c.args.points.now c.before-first.result c.up_to-end.result (omega arith) c.before-first.ensures.before c.up_to-end.ensures.behind).0
