use Rattle.std.proofs.Common.{◌∙◌, ap, sym, arith, None}
use Rattle.std.proofs.Math.ListN.{drop_of_length-le}
use Rattle.point_model.specs.Conditions.{Condition}
use Rattle.point_model.specs.Flat.{parts_of}
use Rattle.point_model.proofs.FlatLemmas.{met-at-end}
use Rattle.point_model.proofs.condition.TagCond.meets.Goals as goal

pub returns : goal.returns
returns c =
    met-at-end c.args.self.now c.args.series.now c.deref-of-items.result.now _ c.loop-of.met c.loop-of.passing
    (c.deref-of-items.ensures.value ∙ sym c.self.invariant ∙ ap (λ (x : Condition). parts_of None x) c.self.view_is)
    (drop_of_length-le c.deref-of-items.result.now c.loop-of-test.false) c.loop-of.invariant.answer
