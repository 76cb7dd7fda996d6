-- Two headings and the rows.
use Rattle.std.proofs.Common.{◌++◌, ◌∷◌, [], ℕ, List, length, sym, ap, ◌∙◌, append_assoc, codes, map}
use Rattle.session_model.specs.Replies.{row_line, ended}
use Rattle.session_model.specs.Machine.{shown_row}
use Rattle.session_loop.proofs.GoingLemmas.{on_ok_map}
use Rattle.session_loop.proofs.NumberLemmas.{some_length}
use Rattle.session_loop.proofs.TableLemmas.{tables_text}
use Rattle.session_loop.proofs.replies.ReplyText.add_tables.Goals as goal

pub returns : goal.returns
returns c =
    let name : List ℕ = (codes "name: " ++ c.args.measurement.now) ++ 10 ∷ [] in
    let time : List ℕ = (codes "time " ++ c.args.field.now) ++ 10 ∷ [] in
    let rows : List ℕ = ended (map row_line (map shown_row c.args.rows.now)) in
    on_ok_map c.add_rows.result _ _ (λ is. is ∙ ap (λ (l : List ℕ). l ++ rows) (c.in_ok-add_heading-2.ensures ∙ ap (λ (l : List ℕ). l ++ time) c.in_ok-add_heading.ensures)
    ∙ append_assoc (c.args.self.now ++ name) time rows ∙ append_assoc c.args.self.now name (time ++ rows)
    ∙ ap (λ (l : List ℕ). c.args.self.now ++ l) (sym (tables_text c.args.measurement.now c.args.field.now c.args.rows.now (some_length (length c.args.rows.now) (sym c.is_empty.ensures ∙ c.if-is_empty.false))))) c.add_rows.ensures
