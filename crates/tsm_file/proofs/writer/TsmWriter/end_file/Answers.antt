use Rattle.std.proofs.Common.{◌≡◌, ◌++◌, ℕ, List, refl, ap, sym, subst, ◌∙◌}
use Rattle.std.specs.Prelude.{IsTrue}
use Rattle.fixed_width.specs.Fields.{bytes_of_u64}
use Rattle.tsm_format.specs.Format.{index_bytes}
use Rattle.tsm_format.specs.Rows.{AreIndex, end_of}
use Rattle.tsm_file.proofs.WritingLemmas.{closed_index, ends_file}
use Rattle.tsm_file.proofs.writer.TsmWriter.end_file.Goals as goal

pub write_index-requires : goal.write_index-requires
write_index-requires g c =
    let rows = c.end_key.new.self.rows.items in
    let closed = c.in_ok-end_key.ensures.closes c.requires.open.0 c.requires.open.1 in
    let index : AreIndex (end_of rows) rows = closed_index (IsTrue g.W.Writer.tells) (g.W.Writer.content c.end_key.new.self.device) c.end_key.new.self c.requires.open.0 c.args.self.now.key.items closed c.in_ok-end_key.ensures.last in
    (end_of rows, subst (AreIndex (end_of rows)) (sym c.deref.ensures.value) index)

pub returns-clause-ends : goal.returns-clause-ends
returns-clause-ends g c = λ pushed holds.
    let mid = c.end_key.new.self in
    let tail : c.put_u64.new.out.items ≡ index_bytes mid.rows.items ++ bytes_of_u64 mid.end =
    c.in_ok-put_u64.ensures.ok ∙ ap (λ (l : List ℕ). l ++ bytes_of_u64 mid.end) (c.in_ok-tail.ensures ∙ ap index_bytes c.deref.ensures.value) in
    ends_file (IsTrue g.W.Writer.tells) (g.W.Writer.content mid.device) (g.W.Writer.content c.finish.new.self) mid _ c.args.self.now.key.items c.put_u64.new.out.items pushed
    (c.in_ok-end_key.ensures.closes pushed holds) c.in_ok-end_key.ensures.last tail
    (λ told. c.in_ok-finish.ensures.content ∙ c.in_ok-append.ensures.appended told ∙ ap (λ (l : List ℕ). g.W.Writer.content mid.device ++ l) c.deref-2.ensures.value)
    refl refl
