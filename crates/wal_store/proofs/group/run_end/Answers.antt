use Rattle.std.proofs.Common.{sym, ap, ◌∙◌}
use Rattle.std.proofs.lemmas.Bool.{false≢true}
use Rattle.tsdb_types.specs.declared.point.Point.{Point}
use Rattle.wal_store.proofs.GroupLemmas.{other_at, same_more}
use Rattle.wal_store.proofs.group.run_end.Goals as goal

pub returns-then-not-is_of-clause-next : goal.returns-then-not-is_of-clause-next
returns-then-not-is_of-clause-next c =
    other_at c.args.series.now c.args.points.now c.loop-at.at c.index-points-at.result c.loop-at-test.true
    (λ is. false≢true (sym c.if-not-is_of.true ∙ c.is_of.ensures.1 (ap (λ (p : Point). p.cell.series) c.index-points-at.is ∙ is)))

pub loop-at-preserved : goal.loop-at-preserved
loop-at-preserved c =
    same_more c.args.series.now c.args.points.now c.loop-at.at c.index-points-at.result c.loop-at-test.true c.loop-at.invariant
    (sym (ap (λ (p : Point). p.cell.series) c.index-points-at.is) ∙ c.is_of.ensures.0 c.if-not-is_of.false)
