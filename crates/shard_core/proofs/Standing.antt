-- What holds of the points, the files and the directory; the rest of the invariant is about kinds.
use Rattle.std.proofs.Common.{map}
use Rattle.std.specs.List.{AllByRecursion}
use Rattle.shard_core.specs.Invariant.{EditStands, GenerationsClimb, HeldPresent, HoldsCounted, IsIndex, MergeStands, NamedOnce, ShowsHistory, ViewShows}
use Rattle.shard_core.specs.Numbers.{AreDisjoint}
use Rattle.shard_core.specs.Parts.{StandsInParts}
use Rattle.shard_core.specs.Files.{source_numbers}
use Rattle.shard_core.specs.State.{Core, points_now}

pub record Standing (core : Core) : Type 0 where
  pub shows : ShowsHistory core
  pub views : AllByRecursion (ViewShows core.start core.history) core.views
  pub merges : AllByRecursion (MergeStands core.files) core.merges
  pub apart : AreDisjoint (map source_numbers core.merges)
  pub parts : StandsInParts core
  pub generations : GenerationsClimb core
  pub holds : HoldsCounted core
  pub present : HeldPresent core
  pub once : NamedOnce core
  pub edit : EditStands core
  pub index : IsIndex (points_now core) core.index
