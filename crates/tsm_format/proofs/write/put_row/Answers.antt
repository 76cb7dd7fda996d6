use Rattle.std.proofs.Common.{◌≡◌, List, ℕ, ◌++◌, length, ap, ◌∙◌}
use Rattle.std.specs.List.{flat_map}
use Rattle.std.proofs.lemmas.List.{append_assoc}
use Rattle.std.proofs.lemmas.Result.{on_ok_weaker}
use Rattle.tsm_format.specs.declared.entry.Entry.{Entry}
use Rattle.tsm_format.specs.Format.{row_bytes, head_bytes, entry_bytes}
use Rattle.tsm_format.proofs.write.put_row.Goals as goal

pub returns : goal.returns
unfolding row_bytes
returns c =
    let row = c.args.row.now in
    let head : c.put_head.new.out.items ≡ c.args.out.now.items ++ head_bytes row.key row.kind (length row.entries) =
    c.in_ok-put_head.ensures ∙ ap (λ (k : List ℕ). c.args.out.now.items ++ head_bytes k row.kind (length c.as_slice-entries.result.now)) c.as_slice.ensures
    ∙ ap (λ (es : List Entry). c.args.out.now.items ++ head_bytes row.key row.kind (length es)) c.as_slice-entries.ensures in
    on_ok_weaker c.put_entries.result (λ e. e ∙ ap (λ (es : List Entry). c.put_head.new.out.items ++ flat_map entry_bytes es) c.as_slice-entries.ensures
    ∙ ap (λ (l : List ℕ). l ++ flat_map entry_bytes row.entries) head ∙ append_assoc c.args.out.now.items (head_bytes row.key row.kind (length row.entries)) (flat_map entry_bytes row.entries)) c.put_entries.ensures
