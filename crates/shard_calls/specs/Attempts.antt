-- What is noted of an entry that was refused?
use Rattle.std.specs.Prelude.{ℕ, List, [], ◌∷◌, Option, None, Some}
use Rattle.std.specs.List.{flat_map}
use Rattle.std.specs.declared.snapshot.Snapshot.{Snapshot}
use Rattle.store_trait.specs.Notes.{entry_noted}
use Rattle.store_trait.specs.declared.note.EntryNote.{EntryNote}
use Rattle.store_trait.specs.Told.{Attempt}
use Rattle.store_trait.specs.declared.fault.DeleteFault.{DeleteFault}
use Rattle.store_trait.specs.declared.fault.DeleteFault.TheVariants as delete_fault
use Rattle.store_trait.specs.declared.fault.WriteFault.{WriteFault}
use Rattle.store_trait.specs.declared.fault.WriteFault.TheVariants as fault
use Rattle.shard_calls.specs.declared.noting.NotedAttempt.{NotedAttempt}

-- the note of a batch where a fault or want of memory refused it, so that it may have been tried
abbrev pub attempt_of : WriteFault → EntryNote → Option EntryNote
attempt_of (fault.TypeConflict field held number) note = None
attempt_of fault.HistoryFull note = None
attempt_of (fault.SeriesFull held) note = None
attempt_of (fault.CacheFull held) note = None
attempt_of fault.Memory note = Some note
attempt_of fault.Fault note = Some note

-- the same of a deletion
abbrev pub deletion_attempt_of : DeleteFault → EntryNote → Option EntryNote
deletion_attempt_of delete_fault.HistoryFull note = None
deletion_attempt_of delete_fault.Memory note = Some note
deletion_attempt_of delete_fault.Fault note = Some note

-- the entry of the client that was tried behind this number, or none
abbrev pub entry_tried : ℕ → ℕ → Option EntryNote → List Attempt
entry_tried client number None = []
entry_tried client number (Some note) = (number, entry_noted client note) ∷ []

-- the entries of the client that were tried
abbrev pub entries_tried : ℕ → List (Snapshot NotedAttempt) → List Attempt
entries_tried client notes = flat_map (λ (noted : Snapshot NotedAttempt). entry_tried client noted.value.number noted.value.tried) notes
