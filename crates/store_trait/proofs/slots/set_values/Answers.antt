-- One point more is set.
use Rattle.store_trait.proofs.SettingLemmas.{stays_there, set_one_more}
use Rattle.store_trait.proofs.slots.set_values.Goals as goal

pub loop-point-preserved : goal.loop-point-preserved
loop-point-preserved c = record {
  there = λ p in_points. stays_there c.loop-point.slots c.set_value.new.slots c.point-item.result c.set_value.ensures p.cell (c.loop-point.invariant.there p in_points);
  set = λ stored agrees.
      set_one_more c.loop-point.slots c.set_value.new.slots stored c.args.points.now c.loop-point.point-index c.point-item.result
      c.loop-point-test.true c.point-item.is c.set_value.ensures (c.loop-point.invariant.set stored agrees);
}
