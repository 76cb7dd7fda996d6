use Rattle.std.proofs.Common.{List, ℕ, ◌++◌, ap, ◌∙◌}
use Rattle.std.proofs.lemmas.Result.{on_ok_weaker}
use Rattle.index_file.specs.declared.content.NameIds.{NameIds}
use Rattle.index_file.specs.declared.content.TagIds.{TagIds}
use Rattle.index_file.specs.Format.{counted_bytes, ids_bytes, named_bytes, tag_bytes}
use Rattle.index_file.proofs.PutLemmas.{measurement_put}
use Rattle.index_file.proofs.put.put_measurement.Goals as goal

pub returns : goal.returns
returns c =
    on_ok_weaker c.put_tags.result (λ e. measurement_put c.args.out.now.items c.args.measurement.now c.put_name.new.out.items c.put_ids.new.out.items c.put_lists.new.out.items c.put_tags.new.out.items
    c.in_ok-put_name.ensures
    (c.in_ok-put_ids.ensures ∙ ap (λ (l : List ℕ). c.put_name.new.out.items ++ ids_bytes l) c.as_slice.ensures)
    (c.in_ok-put_lists.ensures ∙ ap (λ (l : List NameIds). c.put_ids.new.out.items ++ counted_bytes named_bytes l) c.as_slice-2.ensures)
    (e ∙ ap (λ (l : List TagIds). c.put_lists.new.out.items ++ counted_bytes tag_bytes l) c.as_slice-3.ensures)) c.put_tags.ensures
