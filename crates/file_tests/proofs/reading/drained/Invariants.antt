use Rattle.std.proofs.Common.{All}
use Rattle.tsm_file.specs.ReadBlocks.{IsWithin}
use Rattle.file_tests.proofs.reading.drained.Given as goal

abbrev pub invariant-loop : goal.invariant-loop
invariant-loop l = All (IsWithin l.reader.bytes.items) l.cursor.blocks
