use Rattle.std.proofs.Common.{◌≤ℤ◌, arith}
use Rattle.std.proofs.lemmas.Int.{ints}
use Rattle.point_cache.proofs.MergeLemmas.{from_time}
use Rattle.point_cache.proofs.merging.count_before.Goals as goal

pub returns-then-ge-clause-behind : goal.returns-then-ge-clause-behind
returns-then-ge-clause-behind c =
    let points = c.args.points.now in
    let is = c.ge.ensures in
    let yes = c.if-ge.true in
    let up : c.args.time ≤ℤ c.index-points-i.result.0 = grind (arith, ints) in
    from_time points c.loop-i.i c.index-points-i.result c.args.time c.loop-i-test.true c.index-points-i.is up c.requires
