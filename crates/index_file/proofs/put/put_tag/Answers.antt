use Rattle.std.proofs.Common.{List, ◌++◌, ap, ◌∙◌}
use Rattle.std.proofs.lemmas.Result.{on_ok_weaker}
use Rattle.index_file.specs.declared.content.NameIds.{NameIds}
use Rattle.index_file.specs.Format.{counted_bytes, named_bytes}
use Rattle.index_file.proofs.PutLemmas.{tag_put}
use Rattle.index_file.proofs.put.put_tag.Goals as goal

pub returns : goal.returns
returns c =
    on_ok_weaker c.put_lists.result (λ e. tag_put c.args.out.now.items c.args.tag.now c.put_name.new.out.items c.put_lists.new.out.items c.in_ok-put_name.ensures
    (e ∙ ap (λ (l : List NameIds). c.put_name.new.out.items ++ counted_bytes named_bytes l) c.as_slice.ensures)) c.put_lists.ensures
