-- What an adoption does to the directory, where it puts a finished file in and where it doesn't.
use Rattle.std.specs.Prelude.{◌≡◌, ℕ, List, IsTrue}
use Rattle.shard_disk.specs.Crash.{Crashes, Follows, Same}
use Rattle.shard_disk.specs.Directory.{Directory, ChangesAt, Appears, MadeOrNot}
use Rattle.shard_disk.specs.HandedOut.{HandedOut, TakesNumber, SkipsNumbers}

-- The file is there, whole, under the next number, and every crash from then on leaves it. It is adopted.
pub record Adopts (tells : Type 0) (number : ℕ) (bytes : List ℕ) (files files' : Directory) (crashes crashes' : Crashes) (handed handed' : HandedOut) : Type 0 where
  pub takes : TakesNumber number handed handed'
  pub adopted : tells → IsTrue (handed'.adopted number)
  pub file : tells → ChangesAt number (Appears bytes) files files'
  pub crash : Follows (ChangesAt number (Appears bytes)) crashes crashes'

-- The file isn't there, and a crash may leave it, whole, under the next number. Numbers may have been passed over.
pub record AdoptsNone (bytes : List ℕ) (files files' : Directory) (crashes crashes' : Crashes) (handed handed' : HandedOut) : Type 0 where
  pub same : files' ≡ files
  pub crash : Follows (ChangesAt handed.next_number (MadeOrNot (Appears bytes))) crashes crashes'
  pub skips : SkipsNumbers handed handed'

-- Nothing came of the call: no crash leaves the file, and its number is still the next one.
pub record NeverBegan (crashes crashes' : Crashes) (handed handed' : HandedOut) : Type 0 where
  pub crash : Follows Same crashes crashes'
  pub handed_out : handed' ≡ handed
