use Rattle.std.proofs.Common.{◌≡◌, slice_get, drop}
use Rattle.file_table.specs.Files.{free_of}
use Rattle.file_table.proofs.parts.nth_free.Given as goal

abbrev pub invariant-loop-file : goal.invariant-loop-file
invariant-loop-file l = slice_get (free_of (drop l.file-index l.files)) l.left ≡ slice_get (free_of l.files) l.k
