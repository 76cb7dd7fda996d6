use Rattle.std.proofs.Common.{◌≡◌, ℕ, List, ◌++◌, length, ap, ◌∙◌}
use Rattle.std.proofs.lemmas.Result.{on_ok_weaker}
use Rattle.fixed_width.specs.Fields.{bytes_of_u16}
use Rattle.index_file.proofs.PutLemmas.{if_written, text_put}
use Rattle.index_file.proofs.put.put_name.Goals as goal

pub returns : goal.returns
returns c =
    let text : c.as_bytes-text.result.now ≡ c.args.name.now = c.as_bytes-text.ensures.value ∙ c.as_str.ensures.text in
    on_ok_weaker c.extend_from_slice.result (λ e. text_put c.args.out.now.items c.args.name.now c.put_u16.new.out.items c.extend_from_slice.new.self.items
    (c.in_ok-put_u16.ensures.ok ∙ ap (λ (l : List ℕ). c.args.out.now.items ++ bytes_of_u16 (length l)) text)
    (e ∙ ap (λ (l : List ℕ). c.put_u16.new.out.items ++ l) text))
    (if_written c.extend_from_slice.result c.extend_from_slice.new.self.items (c.put_u16.new.out.items ++ c.as_bytes-text.result.now) c.put_u16.new.out.items c.extend_from_slice.ensures.items)
