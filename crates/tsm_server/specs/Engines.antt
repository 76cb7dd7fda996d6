-- What is an engine of the program that was opened on a disk?
use Rattle.std.specs.Prelude.{◌≡◌, Ok}
use Rattle.shard_disk.specs.declared.disk.Disk.{Ghosts}
use Rattle.shard_opening.specs.Opening.{Answers, Begins, KeepsNamed, Settles}
use Rattle.shard_steps.specs.declared.shard.Shard.{Shard}
use Rattle.tsm_server.specs.Directories.{IsUsual}

-- It has the program's settings, and the state and the series for which the disk's files stood; a history of it begins there. Nothing has
-- failed since, no reader of the disk is out more, and the files that are named are as they were.
pub record IsOpened {D R W : Type 0} (g : Ghosts D R W) (disk : D) (engine : Shard D) : Type 0 where
  pub usual : IsUsual engine.settings
  pub answers : Answers g disk (Ok engine)
  pub begins : Begins g disk engine
  pub settled : Settles g disk engine
  pub kept : KeepsNamed g disk engine.logs.disk
  pub health : g.health engine.logs.disk ≡ g.health disk
