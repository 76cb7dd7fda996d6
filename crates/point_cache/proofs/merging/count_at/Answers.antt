use Rattle.std.proofs.Common.{sym, ◌∙◌}
use Rattle.point_cache.proofs.MergeLemmas.{later_first, later_next}
use Rattle.point_cache.proofs.merging.count_at.Goals as goal

pub returns-then-eq-clause-later : goal.returns-then-eq-clause-later
returns-then-eq-clause-later c = later_next c.args.points.now c.in-Some.first.now c.args.time (sym c.in-Some.ensures.value) (sym c.eq.ensures ∙ c.if-eq.true) c.requires.ascending

pub returns-else-eq-clause-later : goal.returns-else-eq-clause-later
returns-else-eq-clause-later c = later_first c.args.points.now c.in-Some.first.now c.args.time (sym c.in-Some.ensures.value) (sym c.eq.ensures ∙ c.if-eq.false) c.requires.ascending c.requires.behind
