-- What does a directory stand for?
use Rattle.std.specs.Prelude.{◌≡◌, ℕ, suc, ◌+◌, ◌≤◌, List, map, length, Option}
use Rattle.tsdb_types.specs.declared.point.Cell.{Cell}
use Rattle.tsdb_types.specs.declared.value.Value.{Value}
use Rattle.point_model.specs.declared.entry.Entry.{Entry}
use Rattle.point_model.specs.Histories.{State, after}
use Rattle.point_model.specs.Points.{value_at}
use Rattle.point_model.specs.Contents.{overlay}
use Rattle.shard_core.specs.Contents.{left}
use Rattle.shard_core.specs.Numbers.{Climbs, count, stored_names}
use Rattle.shard_core.specs.Files.{content_in, generation_in}
use Rattle.shard_core.specs.State.{Image}

-- what the entries of its log leave on the overlay of its files
abbrev pub image_value : Image → Cell → Option Value
image_value image cell = left image.entries (overlay (map content_in image.files)) cell

-- Generations ascend and don't pass the floor, and no number is named twice.
pub record IsDirectory (image : Image) : Type 0 where
  pub generations : Climbs 0 (map generation_in image.files) (suc image.floor)
  pub once : (n : ℕ) → count n (stored_names image.files) ≤ 1

-- the state has the points after the history from this start, and the number of its last entry
pub record IsAfter (start : State) (history : List Entry) (state : State) : Type 0 where
  pub points : (cell : Cell) → value_at state.points cell ≡ value_at (after start.points history) cell
  pub number : state.number ≡ start.number + length history

-- a directory with the points after the history, and with the number of its last entry
pub record ImageStands (start : State) (history : List Entry) (image : Image) : Type 0 where
  pub directory : IsDirectory image
  pub shows : (cell : Cell) → image_value image cell ≡ value_at (after start.points history) cell
  pub counted : image.floor + length image.entries ≡ start.number + length history
