use Rattle.std.proofs.Common.{ap, get_or, Option}
use Rattle.std.proofs.lemmas.List.Edits.{map_over_more}
use Rattle.point_model.specs.Rows.{Row}
use Rattle.point_view.specs.Heads.{head_passed}
use Rattle.point_view.proofs.key_cursor.pass.Goals as goal

pub loop-head-preserved : goal.loop-head-preserved
loop-head-preserved c =
    let heads = c.loop-head.head-items in
    let k = c.loop-head.head-index in
    rw c.passed.ensures
    (map_over_more (head_passed c.args.time) c.deref_mut-head-items.result.now heads k (get_or heads k c.head-item.result) c.loop-head-test.true c.loop-head.invariant
    (ap (λ (head : Option Row). get_or heads k head) c.head-item.is))
