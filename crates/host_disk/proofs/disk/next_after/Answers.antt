use Rattle.std.proofs.Common.{arith}
use Rattle.host_disk.proofs.NumbersLemmas.{below_one_more, below_all}
use Rattle.host_disk.proofs.disk.next_after.Goals as goal

pub loop-name-preserved : goal.loop-name-preserved
loop-name-preserved c = below_one_more c.args.names.now c.loop-name.name-index c.loop-name.next _ (omega arith) c.raised-next.ensures.no_lower c.loop-name.invariant c.raised-next.ensures.above

pub returns : goal.returns
returns c = below_all c.args.names.now c.loop-name.name-index c.loop-name.next (omega arith) c.loop-name.invariant
