-- What a write in place does to the directory.
use Rattle.std.specs.Prelude.{◌≡◌}
use Rattle.shard_disk.specs.Crash.{Crashes, Follows, Same}
use Rattle.shard_disk.specs.Directory.{Directory}

-- No byte was written, and no crash tells that one was to be.
pub record WritesNone (files files' : Directory) (crashes crashes' : Crashes) : Type 0 where
  pub same : files' ≡ files
  pub crash : Follows Same crashes crashes'
