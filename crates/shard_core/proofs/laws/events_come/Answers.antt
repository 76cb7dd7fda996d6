use Rattle.std.proofs.Common.{arith}
use Rattle.shard_core.proofs.ComeLemmas.{snapshot_ends, merge_ends, empty_opens, empty_readable}
use Rattle.shard_core.proofs.WholeLemmas.{standing}
use Rattle.shard_core.proofs.laws.events_come.Goals as goal

pub returns : goal.returns
returns c = record {
  end_snapshot = λ core inv. snapshot_ends core (standing core inv);
  end_merge = λ core inv. merge_ends core (standing core inv);
  directory = record { generations = omega arith; once = λ n. omega arith };
  readable = empty_readable;
  opens = empty_opens;
}
