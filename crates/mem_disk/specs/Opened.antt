-- What a disk tells when it was just opened.
use Rattle.std.specs.Prelude.{◌≡◌, ℕ, ◌<◌, ◌≤◌, IsTrue}
use Rattle.shard_disk.specs.Directory.{Directory, IsPresent}
use Rattle.shard_disk.specs.HandedOut.{HandedOut}

-- the least number above those of all files that are there
pub record IsLeastAbove (files : Directory) (next : ℕ) : Type 0 where
  pub above : (n : ℕ) → IsPresent files n → n < next
  pub least : (m : ℕ) → ((n : ℕ) → IsPresent files n → n < m) → next ≤ m

-- The next number is the least above all that are there, no reader is out, and each file is adopted.
pub record IsJustOpened (files : Directory) (handed : HandedOut) : Type 0 where
  pub next : IsLeastAbove files handed.next_number
  pub no_reader : (n : ℕ) → handed.readers n ≡ 0
  pub adopted : (n : ℕ) → IsPresent files n → IsTrue (handed.adopted n)
