-- What the tests know of a writer.
use Rattle.std.specs.Prelude.{◌≡◌, ℕ, ◌≤◌, List, length, Option, None}
use Rattle.std.specs.List.{last_or}
use Rattle.std.specs.Option.{option_map}
use Rattle.shard_disk.specs.Stage.{Stage}
use Rattle.tsm_file.specs.Written.{KeyedPoint}
use Rattle.tsm_file.specs.Writing.{Holds}
use Rattle.tsm_file.specs.declared.writer.TsmWriter.{TsmWriter}

-- so many points at most were pushed to it, and this is the last of their keys, if any
pub record HasPushed {W : Type 0} (tells : Type 0) (content : W → List ℕ) (stage : W → Stage) (writer : TsmWriter W) (most : ℕ) (last : Option (List ℕ)) : Type 0 where
  pub pushed : List KeyedPoint
  pub holds : Holds tells content stage writer pushed
  pub few : length pushed ≤ most
  pub ends : option_map (λ point. point.key) (last_or None pushed) ≡ last
