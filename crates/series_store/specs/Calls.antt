-- What is a series file in memory, and what is read as one?
use Rattle.std.specs.Prelude.{ℕ, List}
use Rattle.shard_disk.specs.Crash.{Crashes}
use Rattle.shard_disk.specs.Directory.{Directory}
use Rattle.gate_log.specs.declared.log.Log.{Log}
use Rattle.gate_log.specs.Calls.Read.{Reads}
use Rattle.series_store.specs.Lists.{Hold}

-- the series in the order of their ids, the log that they are kept in, and for how many more there is room in memory
pub record Kept : Type 0 where
  pub keys : List (List ℕ)
  pub log : Log
  pub room : ℕ

-- The log of the file has records that hold these series.
pub record Finds (tells : Type 0) (number : ℕ) (found : Kept) (files : Directory) (crashes crashes' : Crashes) : Type 0 where
  pub records : List (List ℕ)
  pub log : Reads tells number found.log records files crashes crashes'
  pub hold : Hold records found.keys
