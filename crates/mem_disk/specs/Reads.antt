-- What a reader in memory has counted.
use Rattle.std.specs.Prelude.{◌≡◌, ℕ, ◌+◌, min, Option, Some, unwrap_or}
use Rattle.shard_disk.specs.Health.{last_count}
use Rattle.mem_disk.specs.declared.reader.MemReader.{MemReader}

-- how many reads it was asked for, those that failed among them; the count stays at its last value
abbrev pub reads_of : MemReader → ℕ
reads_of reader = reader.calls.next

-- the least offset that was read from, and the last one
abbrev pub lowest_of : MemReader → Option ℕ
lowest_of reader = reader.lowest

abbrev pub latest_of : MemReader → Option ℕ
latest_of reader = reader.latest

-- one read more, at this offset
pub record Counts (at : ℕ) (old new : MemReader) : Type 0 where
  pub reads : reads_of new ≡ min (reads_of old + 1) last_count
  pub lowest : lowest_of new ≡ Some (min (unwrap_or (lowest_of old) at) at)
  pub latest : latest_of new ≡ Some at
