use Rattle.std.proofs.Common.{◌≤ℤ◌, ◌<ℤ◌, rules, arith}
use Rattle.std.specs.Int.Signed.{le_z}
use Rattle.std.proofs.lemmas.Int.{ints}
use Rattle.std.proofs.lemmas.List.Sorted.{IsPartitionPoint-from_clause}
use Rattle.tombstones.proofs.RangeLemmas.{within-take, within-drop}
use Rattle.point_cache.proofs.OrderLemmas.{parted_up_to}
use Rattle.point_view.proofs.places.up_to.Goals as goal

pub returns-clause-before : goal.returns-clause-before
returns-clause-before c =
    let points = c.args.points.now in
    let point = IsPartitionPoint-from_clause (λ r. le_z r.0 c.args.time) _ _ c.partition_point.ensures.partitioned (parted_up_to points c.args.time c.requires) (λ a r q k. search rules) in
    within-take (λ r. r.0 ≤ℤ c.args.time) points c.partition_point.result c.partition_point.ensures.bound (λ k d a b. let is = point.0 k d a b in grind (arith, ints))

pub returns-clause-behind : goal.returns-clause-behind
returns-clause-behind c =
    let points = c.args.points.now in
    let point = IsPartitionPoint-from_clause (λ r. le_z r.0 c.args.time) _ _ c.partition_point.ensures.partitioned (parted_up_to points c.args.time c.requires) (λ a r q k. search rules) in
    within-drop (λ r. c.args.time <ℤ r.0) points c.partition_point.result (λ k d a b. let is = point.1 k d a b in grind (arith, ints))
