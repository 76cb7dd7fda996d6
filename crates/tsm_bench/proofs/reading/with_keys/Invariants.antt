use Rattle.tsm_file.specs.ReadIndex.{HasIndex}
use Rattle.tsm_bench.proofs.reading.with_keys.Given as goal

abbrev pub invariant-loop-place : goal.invariant-loop-place
invariant-loop-place l = HasIndex l.reader.bytes.items l.index.rows
