use Rattle.std.proofs.Common.{List, ℕ, ◌++◌, ap, ◌∙◌}
use Rattle.std.proofs.lemmas.Result.{on_ok_weaker}
use Rattle.index_file.specs.Format.{ids_bytes}
use Rattle.index_file.proofs.PutLemmas.{list_put}
use Rattle.index_file.proofs.put.put_list.Goals as goal

pub returns : goal.returns
returns c =
    on_ok_weaker c.put_ids.result (λ e. list_put c.args.out.now.items c.args.list.now c.put_name.new.out.items c.put_ids.new.out.items c.in_ok-put_name.ensures
    (e ∙ ap (λ (l : List ℕ). c.put_name.new.out.items ++ ids_bytes l) c.as_slice.ensures)) c.put_ids.ensures
