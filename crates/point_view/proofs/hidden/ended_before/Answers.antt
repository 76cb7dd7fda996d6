use Rattle.std.proofs.Common.{◌≤ℤ◌, ◌<ℤ◌, rules, arith}
use Rattle.std.specs.Int.Signed.{lt_z}
use Rattle.std.proofs.lemmas.Int.{ints}
use Rattle.std.proofs.lemmas.List.Sorted.{IsPartitionPoint-from_clause}
use Rattle.tombstones.proofs.RangeLemmas.{parted_by_end, within-take, within-drop}
use Rattle.point_view.proofs.hidden.ended_before.Goals as goal

pub returns-clause-ended : goal.returns-clause-ended
returns-clause-ended c =
    let ranges = c.args.ranges.now in
    let parted = parted_by_end ranges c.args.time c.requires in
    let point = IsPartitionPoint-from_clause (λ r. lt_z r.to c.args.time) _ _ c.partition_point.ensures.partitioned parted (λ a r q k. search rules) in
    within-take (λ r. r.to <ℤ c.args.time) ranges c.partition_point.result c.partition_point.ensures.bound (λ k d a b. let is = point.0 k d a b in grind (arith, ints))

pub returns-clause-others : goal.returns-clause-others
returns-clause-others c =
    let ranges = c.args.ranges.now in
    let parted = parted_by_end ranges c.args.time c.requires in
    let point = IsPartitionPoint-from_clause (λ r. lt_z r.to c.args.time) _ _ c.partition_point.ensures.partitioned parted (λ a r q k. search rules) in
    within-drop (λ r. c.args.time ≤ℤ r.to) ranges c.partition_point.result (λ k d a b. let is = point.1 k d a b in grind (arith, ints))
