use Rattle.index_file.specs.Format.{named_bytes}
use Rattle.index_file.proofs.PutLemmas.{counted_put}
use Rattle.index_file.proofs.put.put_lists.Goals as goal

pub returns : goal.returns
returns c = counted_put named_bytes c.args.out.now.items c.args.lists.now c.loop-list.list-index c.loop-list.out.items c.loop-list-test.false c.loop-list.invariant
