use Rattle.std.proofs.Common.{rules, arith, nat_lt}
use Rattle.std.proofs.lemmas.List.Sorted.{IsPartitionPoint-from_clause, IsPartitionedBy-ltb}
use Rattle.file_table.proofs.order.older_than.Goals as goal

pub returns-clause-older : goal.returns-clause-older
returns-clause-older c =
    let parted = IsPartitionedBy-ltb (λ r. r.generation) c.args.rows.now c.args.generation c.requires in
    let point = IsPartitionPoint-from_clause (λ r. nat_lt r.generation c.args.generation) _ _ c.partition_point.ensures.partitioned parted (λ a r q k. search rules) in
    λ k d a b. let is = point.0 k d a b in grind arith

pub returns-clause-others : goal.returns-clause-others
returns-clause-others c =
    let parted = IsPartitionedBy-ltb (λ r. r.generation) c.args.rows.now c.args.generation c.requires in
    let point = IsPartitionPoint-from_clause (λ r. nat_lt r.generation c.args.generation) _ _ c.partition_point.ensures.partitioned parted (λ a r q k. search rules) in
    λ k d a b. let is = point.1 k d a b in grind arith
