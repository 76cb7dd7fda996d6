use Rattle.index_file.specs.Format.{tag_bytes}
use Rattle.index_file.proofs.PutLemmas.{counted_put}
use Rattle.index_file.proofs.put.put_tags.Goals as goal

pub returns : goal.returns
returns c = counted_put tag_bytes c.args.out.now.items c.args.tags.now c.loop-tag.tag-index c.loop-tag.out.items c.loop-tag-test.false c.loop-tag.invariant
