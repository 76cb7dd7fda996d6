-- What do all contents of a state show, and what does its disk have?
use Rattle.std.specs.Prelude.{◌-◌, List, [], ◌∷◌, ◌++◌, drop, map, Option, Some, None}
use Rattle.point_model.specs.Contents.{Content}
use Rattle.point_model.specs.Points.{Points}
use Rattle.shard_core.specs.Contents.{held}
use Rattle.shard_core.specs.Files.{now_of, stored_of}
use Rattle.shard_core.specs.State.{Core, File, Image, Snapshot}

-- what is live in the snapshot, where there is one
abbrev pub snapshot_contents : Option Snapshot → List Content
snapshot_contents None = []
snapshot_contents (Some snapshot) = snapshot.now ∷ []

-- the contents of files, snapshot and cache, the oldest first
abbrev pub contents_in : List File → Option Snapshot → Points → List Content
contents_in files snapshot cache = map now_of files ++ (snapshot_contents snapshot ++ held cache ∷ [])

-- those of the state
abbrev pub contents_of : Core → List Content
contents_of core = contents_in core.files core.snapshot core.cache

-- what the disk has where nothing is in doubt
abbrev pub image_of : Core → Image
image_of core = record {
  files = map stored_of core.files;
  floor = core.floor;
  entries = drop (core.floor - core.origin) (core.past ++ core.history);
}
