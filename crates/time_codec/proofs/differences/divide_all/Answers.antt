use Rattle.std.proofs.Common.{◌/◌, ◌<◌, length, get_or, arith}
use Rattle.std.proofs.lemmas.List.{get_or_default}
use Rattle.std.proofs.lemmas.List.Edits.{map_over_more}
use Rattle.time_codec.proofs.differences.divide_all.Goals as goal

pub loop-difference-preserved : goal.loop-difference-preserved
loop-difference-preserved g c =
    let value = get_or c.loop-difference.differences c.loop-difference.difference-index 0 in
    let within : c.loop-difference.difference-index < length c.loop-difference.differences = omega arith in
    map_over_more (λ difference. difference / g.row.UNIT) c.args.differences.now c.loop-difference.differences c.loop-difference.difference-index value c.loop-difference-test.true c.loop-difference.invariant
    (get_or_default c.loop-difference.differences c.loop-difference.difference-index 0 value within)
