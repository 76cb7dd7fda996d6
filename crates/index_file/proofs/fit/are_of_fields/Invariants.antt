use Rattle.std.proofs.Common.{◌≡◌, map, take}
use Rattle.index_file.specs.Contents.{AreAllAmong, some_has}
use Rattle.index_file.proofs.fit.are_of_fields.Given as goal

-- those of the fields so far are among the ids, and are marked
abbrev pub invariant-loop-field : goal.invariant-loop-field
invariant-loop-field l = AreAllAmong l.ids (take l.field-index l.fields) × (l.marks.items ≡ map (some_has (take l.field-index l.fields)) l.ids)
