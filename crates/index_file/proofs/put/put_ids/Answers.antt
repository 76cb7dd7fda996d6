use Rattle.fixed_width.specs.Fields.{bytes_of_u32}
use Rattle.index_file.proofs.PutLemmas.{counted_put}
use Rattle.index_file.proofs.put.put_ids.Goals as goal

pub returns : goal.returns
returns c = counted_put bytes_of_u32 c.args.out.now.items c.args.ids.now c.loop-id.id-index c.loop-id.out.items c.loop-id-test.false c.loop-id.invariant
