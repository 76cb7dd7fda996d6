-- What a writer holds of the points that were pushed, and which point may come next.
use Rattle.std.specs.Prelude.{◌≡◌, ◌≢◌, ℕ, ◌+◌, ◌≤◌, ◌<◌, ◌^◌, max, ℤ, ◌<ℤ◌, List, [], ◌∷◌, ◌++◌, length, map, fold, All, count_by, Option, None, Some, IfSome, ◌⊎◌}
use Rattle.std.specs.List.{flat_map, last_or}
use Rattle.std.specs.Str.{bytes_eq}
use Rattle.std.specs.Ordering.{nat_cmp}
use Rattle.std.specs.declared.cmp.Ordering.TheVariants.{Less}
use Rattle.std.specs.Cmp.Lexicographic.{slice_cmp}
use Rattle.shard_disk.specs.Stage.{Stage, Refused}
use Rattle.tsdb_types.specs.Keys.{MarkAt}
use Rattle.tsdb_types.specs.Values.{kind_of}
use Rattle.tsdb_types.specs.declared.value.Kind.{Kind}
use Rattle.tsm_format.specs.declared.entry.Entry.{Entry}
use Rattle.tsm_format.specs.declared.row.KeyRow.{KeyRow}
use Rattle.tsm_format.specs.Faults.{last_key}
use Rattle.tsm_format.specs.Frame.{header}
use Rattle.tsm_format.specs.Rows.{AreEntries, AreRows, IsAbove, IsLater, first_block, size_of, sizes_of}
use Rattle.point_model.specs.Rows.{Row}
use Rattle.tsm_file.specs.ReadIndex.{HasIndex}
use Rattle.tsm_file.specs.ReadBlocks.{KeyHas}
use Rattle.tsm_file.specs.Written.{AreCut, AreKeys, IsCut, IsFile, IsHeld, KeyBlocks, KeyedPoint, all_blocks, all_points, block_bytes, entries_of, first_time, joined, keyed, points_under, rows_of}
use Rattle.tsm_file.specs.declared.facts.TsmFacts.{TsmFacts}
use Rattle.tsm_file.specs.declared.writer.TsmWriter.{TsmWriter}

-- ---- what may come

-- it has the key of the one before, is later, and of the same kind
pub record Continues (before point : KeyedPoint) : Type 0 where
  pub key : before.key ≡ point.key
  pub later : before.time <ℤ point.time
  pub alike : kind_of before.value ≡ kind_of point.value

-- it has a greater key than the one before, in the order of bytes, or continues that key
abbrev pub Follows : KeyedPoint → KeyedPoint → Type 0
Follows before point = (slice_cmp nat_cmp before.key point.key ≡ Less) ⊎ Continues before point

-- how many of the points have the key
abbrev pub count_of : List ℕ → List KeyedPoint → ℕ
count_of key points = count_by (λ point. bytes_eq point.key key) points

-- The point may be pushed behind these: it follows the last of them, its key has at most 65,535 bytes with the mark
-- among them, and no key gets more than 65,535,000 points.
pub record MayCome (pushed : List KeyedPoint) (point : KeyedPoint) : Type 0 where
  pub follows : IfSome (last_or None pushed) (λ before. Follows before point)
  pub fits : length point.key ≤ 65535
  pub mark : (at : ℕ) × MarkAt point.key at
  pub few : count_of point.key pushed < 65535000

-- ---- what a writer holds

-- the last time of the blocks of a key, where there is one
abbrev pub end_time : Option ℤ → List Entry → Option ℤ
end_time last [] = last
end_time last (entry ∷ entries) = end_time (Some entry.max) entries

-- the rows are those of these keys, which are written, and may stand at the front of an index
pub record AreDone (rows : List KeyRow) (keys : List KeyBlocks) : Type 0 where
  pub held : All (λ one. All (IsHeld one.kind) one.blocks) keys
  pub cut : All (λ one. IsCut one.blocks) keys
  pub rows_are : rows ≡ rows_of first_block keys
  pub good : AreRows None first_block rows

-- A key behind this one, whose blocks begin at this place: blocks of 1,000 points are written, with these entries, and
-- 1 to 1,000 later points are left.
pub record IsBegun (last : Option (List ℕ)) (place : ℕ) (key : List ℕ) (kind : Kind) (full : List (List Row)) (entries : List Entry) (left : List Row) : Type 0 where
  pub fits : length key < 2 ^ 16
  pub mark : (at : ℕ) × MarkAt key at
  pub above : IsAbove last key
  pub held : All (IsHeld kind) full
  pub each : All (λ block. length block ≡ 1000) full
  pub room : length full < 65535
  pub entries_are : entries ≡ entries_of kind place full
  pub good : AreEntries None place entries
  pub left_are : IsHeld kind left
  pub later : IsLater (end_time None entries) (first_time left)

-- the keys of all points that were pushed are written
pub record IsClosed {W : Type 0} (tells : Type 0) (content : List ℕ) (writer : TsmWriter W) (pushed : List KeyedPoint) : Type 0 where
  pub keys : List KeyBlocks
  pub done : AreDone writer.rows.items keys
  pub all : all_points keys ≡ pushed
  pub left : writer.points.items ≡ []
  pub end : writer.end ≡ first_block + sizes_of writer.rows.items
  pub count : writer.count ≡ length pushed
  pub bytes : tells → content ≡ header ++ all_blocks keys

-- those before the last key are written, and of that the blocks that are full
pub record IsOpen {W : Type 0} (tells : Type 0) (content : List ℕ) (writer : TsmWriter W) (pushed : List KeyedPoint) : Type 0 where
  pub keys : List KeyBlocks
  pub full : List (List Row)
  pub done : AreDone writer.rows.items keys
  pub begun : IsBegun (last_key None writer.rows.items) (first_block + sizes_of writer.rows.items) writer.key.items writer.kind full writer.entries.items writer.points.items
  pub all : all_points keys ++ keyed writer.key.items (joined full ++ writer.points.items) ≡ pushed
  pub end : writer.end ≡ first_block + sizes_of writer.rows.items + size_of writer.entries.items
  pub count : writer.count ≡ length (all_points keys) + length (joined full)
  pub bytes : tells → content ≡ header ++ all_blocks keys ++ flat_map (block_bytes writer.kind) full

-- nothing is pushed yet
pub record IsNew {W : Type 0} (tells : Type 0) (content : List ℕ) (writer : TsmWriter W) (pushed : List KeyedPoint) : Type 0 where
  pub none : pushed ≡ []
  pub rows : writer.rows.items ≡ []
  pub closed : IsClosed tells content writer pushed

-- A writer that wasn't refused, and to which these points were pushed. Of a device that doesn't tell its content,
-- nothing is said of the bytes.
pub record Holds {W : Type 0} (tells : Type 0) (content : W → List ℕ) (stage : W → Stage) (writer : TsmWriter W) (pushed : List KeyedPoint) : Type 0 where
  pub usable : stage writer.device ≢ Refused
  pub points : IsNew tells (content writer.device) writer pushed ⊎ IsOpen tells (content writer.device) writer pushed

-- the device that the file is written to
abbrev pub device_of : {W : Type 0} → TsmWriter W → W
device_of writer = writer.device

-- ---- what is written in the end

-- the greatest count of blocks of a key
abbrev pub most_blocks : List KeyBlocks → ℕ
most_blocks keys = fold max 0 (map (λ one. length one.blocks) keys)

-- the facts are those of these keys: their points are counted, and the index is that of their file, under the number 0
pub record AreFacts (facts : TsmFacts) (keys : List KeyBlocks) : Type 0 where
  pub points : facts.points ≡ length (all_points keys)
  pub most_entries : facts.most_entries ≡ most_blocks keys
  pub index : facts.index ≡ record { file = 0; rows = rows_of first_block keys }

-- The points that were pushed stand in a file, each key's in blocks of 1,000 and a last one, and the facts are its own.
pub record IsOutput (tells : Type 0) (content : List ℕ) (facts : TsmFacts) (pushed : List KeyedPoint) : Type 0 where
  pub keys : List KeyBlocks
  pub cut : AreCut keys pushed
  pub are_keys : AreKeys keys
  pub file : tells → IsFile content keys
  pub facts_are : AreFacts facts keys

-- Where the device tells, the file is read back: its index is the one of the facts, and each key has there those of
-- the points that were pushed under it; a key under which none was pushed has none.
pub record IsReadBack (tells : Type 0) (content : List ℕ) (facts : TsmFacts) (pushed : List KeyedPoint) : Type 0 where
  pub index : tells → HasIndex content facts.index.rows
  pub points : tells → (key : List ℕ) → KeyHas content facts.index.rows key (points_under key pushed)
