use Rattle.std.proofs.Common.{◌==◌, ◌∙◌, sym, ap, length, filter, List, count_by}
use Rattle.std.proofs.lemmas.List.{length-map}
use Rattle.std.proofs.lemmas.List.Sums.{length-filter}
use Rattle.file_table.specs.Table.{Table, free_files}
use Rattle.file_table.specs.declared.condemned.Condemned.{Condemned}
use Rattle.file_table.proofs.table.FileTable.free_count.Goals as goal

pub returns : goal.returns
returns c =
    let files = c.self.inside.condemned.items in
    let idle = filter (λ (f : Condemned). f.holds == 0) files in
    c.free_in.ensures ∙ ap (λ (l : List Condemned). count_by (λ f. f.holds == 0) l) c.deref.ensures.value ∙ sym (length-filter (λ (f : Condemned). f.holds == 0) files)
    ∙ sym (length-map idle (λ (f : Condemned). f.no)) ∙ ap (λ (t : Table). length (free_files t)) c.self.view_is
