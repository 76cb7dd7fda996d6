-- Which entries were noted?
use Rattle.std.specs.Prelude.{ℕ, List, map}
use Rattle.point_model.specs.declared.entry.Entry.{Entry}
use Rattle.point_model.specs.declared.entry.Entry.TheVariants.{Write, Delete}
use Rattle.store_trait.specs.declared.note.EntryNote.{EntryNote}
use Rattle.store_trait.specs.declared.note.EntryNote.TheVariants.{Written, Deleted}

-- the entry of the client that the note is of
abbrev pub entry_noted : ℕ → EntryNote → Entry
entry_noted client (Written batch) = Write client batch.value
entry_noted client (Deleted deletion) = Delete client deletion.value

abbrev pub entries_of : ℕ → List EntryNote → List Entry
entries_of client notes = map (entry_noted client) notes
