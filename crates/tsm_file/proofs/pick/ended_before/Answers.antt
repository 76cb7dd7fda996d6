use Rattle.std.proofs.Common.{◌≤ℤ◌, ◌<ℤ◌, rules, arith}
use Rattle.std.specs.Int.Signed.{lt_z}
use Rattle.std.proofs.lemmas.Int.{ints}
use Rattle.std.proofs.lemmas.List.Sorted.{IsPartitionPoint-from_clause}
use Rattle.tombstones.proofs.RangeLemmas.{within-take, within-drop}
use Rattle.tsm_file.proofs.PickLemmas.{parted_by_max}
use Rattle.tsm_file.proofs.pick.ended_before.Goals as goal

pub returns-clause-ended : goal.returns-clause-ended
returns-clause-ended c =
    let entries = c.args.entries.now in
    let parted = parted_by_max c.requires.0 entries c.args.time c.requires.1 in
    let point = IsPartitionPoint-from_clause (λ e. lt_z e.max c.args.time) _ _ c.partition_point.ensures.partitioned parted (λ a r q k. search rules) in
    within-take (λ e. e.max <ℤ c.args.time) entries c.partition_point.result c.partition_point.ensures.bound (λ k d a b. let is = point.0 k d a b in grind (arith, ints))

pub returns-clause-others : goal.returns-clause-others
returns-clause-others c =
    let entries = c.args.entries.now in
    let parted = parted_by_max c.requires.0 entries c.args.time c.requires.1 in
    let point = IsPartitionPoint-from_clause (λ e. lt_z e.max c.args.time) _ _ c.partition_point.ensures.partitioned parted (λ a r q k. search rules) in
    within-drop (λ e. c.args.time ≤ℤ e.max) entries c.partition_point.result (λ k d a b. let is = point.1 k d a b in grind (arith, ints))
