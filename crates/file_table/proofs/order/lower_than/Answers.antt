use Rattle.std.proofs.Common.{rules, arith, nat_lt}
use Rattle.std.proofs.lemmas.List.Sorted.{IsPartitionPoint-from_clause, IsPartitionedBy-ltb}
use Rattle.file_table.proofs.order.lower_than.Goals as goal

pub returns-clause-lower : goal.returns-clause-lower
returns-clause-lower c =
    let parted = IsPartitionedBy-ltb (λ f. f.no) c.args.files.now c.args.no c.requires in
    let point = IsPartitionPoint-from_clause (λ f. nat_lt f.no c.args.no) _ _ c.partition_point.ensures.partitioned parted (λ a r q k. search rules) in
    λ k d a b. let is = point.0 k d a b in grind arith

pub returns-clause-others : goal.returns-clause-others
returns-clause-others c =
    let parted = IsPartitionedBy-ltb (λ f. f.no) c.args.files.now c.args.no c.requires in
    let point = IsPartitionPoint-from_clause (λ f. nat_lt f.no c.args.no) _ _ c.partition_point.ensures.partitioned parted (λ a r q k. search rules) in
    λ k d a b. let is = point.1 k d a b in grind arith
