-- One point more has its slot.
use Rattle.std.proofs.Common.{◌≡◌, ℕ, Some, IsSome, slice_get, subst, lt_of_lt_of_le}
use borrow.Author.Count.{below_more}
use Rattle.std.proofs.lemmas.Option.{slice_get_within}
use Rattle.tsdb_types.specs.Moments.{IsMoment}
use Rattle.tsdb_types.specs.declared.point.Point.{Point}
use Rattle.store_trait.specs.Slots.{slot_at}
use Rattle.store_trait.proofs.MapLemmas.{stays_then}
use Rattle.store_trait.proofs.SampleLemmas.{item_at, some_same}
use Rattle.store_trait.proofs.slots.make_slots.Goals as goal

pub loop-point-preserved : goal.loop-point-preserved
loop-point-preserved c =
    let points = c.args.points.now in
    let i = c.loop-point.point-index in
    let item = c.point-item.result in
    let at = item_at points i item c.loop-point-test.true c.point-item.is in
    record {
      made = λ k p l g.
          below_more (λ (j : ℕ). (q : Point) → slice_get points j ≡ Some q → IsSome (slot_at c.make_slot.new.slots q.cell)) i
          (λ j below q is. (c.in_ok-make_slot.ensures.kept q.cell).there (c.loop-point.invariant.made j q below is))
          (λ q is. subst (λ (r : Point). IsSome (slot_at c.make_slot.new.slots r.cell)) (some_same (slice_get points i) item q at is) c.in_ok-make_slot.ensures.ok)
          k l p g;
      timed = λ k p l g.
          below_more (λ (j : ℕ). (q : Point) → slice_get points j ≡ Some q → IsMoment q.cell.time) i
          (λ j below q is. c.loop-point.invariant.timed j q below is)
          (λ q is. subst (λ (r : Point). IsMoment r.cell.time) (some_same (slice_get points i) item q at is) c.look_at.ensures)
          k l p g;
      kept = λ q. stays_then _ _ _ (c.loop-point.invariant.kept q) (c.in_ok-make_slot.ensures.kept q);
    }

pub returns-clause-ok : goal.returns-clause-ok
returns-clause-ok c = λ p there. c.loop-point.invariant.made there.0 p (lt_of_lt_of_le (slice_get_within c.args.points.now there.0 p there.1) c.loop-point-test.false) there.1

pub returns-clause-timed : goal.returns-clause-timed
returns-clause-timed c = λ p there. c.loop-point.invariant.timed there.0 p (lt_of_lt_of_le (slice_get_within c.args.points.now there.0 p there.1) c.loop-point-test.false) there.1
