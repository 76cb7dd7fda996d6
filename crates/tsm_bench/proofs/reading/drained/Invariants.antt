use Rattle.std.proofs.Common.{◌≡◌, All}
use Rattle.tsm_file.specs.ReadBlocks.{IsWithin}
use Rattle.tsm_bench.proofs.reading.drained.Given as goal

abbrev pub invariant-loop : goal.invariant-loop
invariant-loop l = record {
  within : All (IsWithin l.reader.bytes.items) l.cursor.blocks;
  content : l.reader.bytes.items ≡ l.initial.reader.bytes.items;
}
