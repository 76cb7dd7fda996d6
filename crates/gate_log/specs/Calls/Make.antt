-- What a new log is, and what is left where none was made.
use Rattle.std.specs.Prelude.{◌≡◌, ◌∷◌, [], None, IsTrue}
use Rattle.shard_disk.specs.Crash.{Crashes, Leaves, Same}
use Rattle.shard_disk.specs.Directory.{Directory, ChangesAt, Appears}
use Rattle.shard_disk.specs.HandedOut.{HandedOut, SkipsNumbers, TakesNumber}
use Rattle.gate_log.specs.declared.log.Gate.TheVariants.{Shut}
use Rattle.gate_log.specs.declared.log.Log.{Log}
use Rattle.gate_log.specs.Log.{IsEmptyLog, IsPlaced, Stands}

-- It has no record and none in doubt, in a file of its own, which holds one closed gate, is adopted and whose number was the next.
pub record Makes (tells : Type 0) (log : Log) (files files' : Directory) (crashes' : Crashes) (handed handed' : HandedOut) : Type 0 where
  pub stands : tells → Stands files' crashes' log [] None
  pub placed : tells → IsPlaced files' log
  pub shut : log.gate ≡ Shut
  pub empty : IsEmptyLog log
  pub file : tells → ChangesAt log.file (Appears (0 ∷ [])) files files'
  pub number : TakesNumber log.file handed handed'
  pub adopted : tells → IsTrue (handed'.adopted log.file)

-- Nothing came of the call: no crash leaves the file, and its number is still the next one.
pub record NeverMade (crashes crashes' : Crashes) (handed handed' : HandedOut) : Type 0 where
  pub crash : Leaves Same crashes crashes'
  pub handed_out : handed' ≡ handed

-- The file isn't there, and numbers may have been passed over. After want of memory nothing came of the call.
pub record MakesNone (memory : Type 0) (files files' : Directory) (crashes crashes' : Crashes) (handed handed' : HandedOut) : Type 0 where
  pub same : files' ≡ files
  pub skips : SkipsNumbers handed handed'
  pub never : memory → NeverMade crashes crashes' handed handed'
