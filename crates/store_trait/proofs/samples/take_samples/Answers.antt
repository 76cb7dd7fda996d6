-- Each point sees to its own field, and leaves those of the points before it with a sample.
use Rattle.std.proofs.Common.{◌≡◌, ℕ, Some, slice_get, subst, lt_of_lt_of_le}
use Rattle.std.proofs.lemmas.Option.{slice_get_within}
use borrow.Author.Count.{below_more}
use Rattle.tsdb_types.specs.declared.point.Point.{Point}
use Rattle.store_trait.specs.Plain.{IsSampled, IsIn}
use Rattle.store_trait.proofs.SampleLemmas.{resample_step, sampled_step, sampled_now, item_at, some_same}
use Rattle.store_trait.proofs.samples.take_samples.Goals as goal

pub loop-point-preserved : goal.loop-point-preserved
loop-point-preserved c =
    let slots = c.args.slots.now in
    let points = c.args.points.now in
    let item = c.point-item.result in
    let there : IsIn points item = (c.loop-point.point-index, item_at points c.loop-point.point-index item c.loop-point-test.true c.point-item.is) in
    record {
      sampled = λ k p l g.
          below_more (λ (j : ℕ). (q : Point) → slice_get points j ≡ Some q → IsSampled slots points c.take_sample.new.samples q) c.loop-point.point-index
          (λ j below q at. sampled_step slots points c.loop-point.samples c.take_sample.new.samples item q there (c.loop-point.invariant.sampled j q below at) c.in_ok-take_sample.ensures.kept)
          (λ q at.
          subst (λ (r : Point). IsSampled slots points c.take_sample.new.samples r) (some_same (slice_get points c.loop-point.point-index) item q there.1 at)
          (sampled_now slots points c.take_sample.new.samples item c.read.new.self there c.in_ok-read.ensures c.in_ok-take_sample.ensures.ok))
          k l p g;
      kept = resample_step slots points c.args.samples.now c.loop-point.samples c.take_sample.new.samples item there c.loop-point.invariant.kept c.in_ok-take_sample.ensures.kept;
    }

pub returns-clause-ok : goal.returns-clause-ok
returns-clause-ok c = λ p there. c.loop-point.invariant.sampled there.0 p (lt_of_lt_of_le (slice_get_within c.args.points.now there.0 p there.1) c.loop-point-test.false) there.1
