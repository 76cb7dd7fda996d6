-- Which bytes are a TSM file, and of which keys and points.
use Rattle.std.specs.Prelude.{◌≡◌, ℕ, ◌+◌, ◌≤◌, ℤ, pos, List, [], ◌∷◌, ◌++◌, length, map, filter, All}
use Rattle.std.specs.List.{flat_map}
use Rattle.std.specs.Str.{bytes_eq}
use Rattle.fixed_width.specs.Fields.{bytes_of_u32, bytes_of_u64}
use Rattle.tsdb_types.specs.declared.value.Kind.{Kind}
use Rattle.tsdb_types.specs.declared.value.Value.{Value}
use Rattle.word_codec.specs.Crc32.{crc32_of}
use Rattle.value_codec.specs.Coding.{IsInRange}
use Rattle.block_codec.specs.Blocks.{ArePoints, coded_block, values_of}
use Rattle.tsm_format.specs.declared.entry.Entry.{Entry}
use Rattle.tsm_format.specs.declared.row.KeyRow.{KeyRow}
use Rattle.tsm_format.specs.Format.{index_bytes}
use Rattle.tsm_format.specs.Frame.{header}
use Rattle.tsm_format.specs.Rows.{AreIndex, first_block}
use Rattle.point_model.specs.Rows.{Row}
use Rattle.tsm_file.specs.ReadBlocks.{last_time}

-- One key of a file: what its values are, and its points, cut into blocks.
pub record KeyBlocks : Type 0 where
  pub key : List ℕ
  pub kind : Kind
  pub blocks : List (List Row)

-- the points of blocks, in order
abbrev pub joined : List (List Row) → List Row
joined blocks = flat_map (λ block. block) blocks

-- a point under its key
pub record KeyedPoint : Type 0 where
  pub key : List ℕ
  pub time : ℤ
  pub value : Value

-- points under one key
abbrev pub keyed : List ℕ → List Row → List KeyedPoint
keyed key points = map (λ point. record { key = key; time = point.0; value = point.1 }) points

-- all points of a file, key by key
abbrev pub all_points : List KeyBlocks → List KeyedPoint
all_points keys = flat_map (λ one. keyed one.key (joined one.blocks)) keys

-- the points of one key
abbrev pub points_under : List ℕ → List KeyedPoint → List Row
points_under key points = map (λ point. (point.time, point.value)) (filter (λ point. bytes_eq point.key key) points)

-- ---- blocks

-- the bytes of a block in a file: its checksum (4), and the block
unfoldable pub block_bytes : Kind → List Row → List ℕ
block_bytes kind block = bytes_of_u32 (crc32_of (coded_block kind block)) ++ coded_block kind block

-- the time of the first point; no block is empty
abbrev pub first_time : List Row → ℤ
first_time [] = pos 0
first_time (point ∷ points) = point.0

-- what the index says of a block that begins at this place; its size counts the checksum
abbrev pub entry_of : Kind → ℕ → List Row → Entry
entry_of kind place block = record {
  min = first_time block;
  max = last_time (first_time block) block;
  offset = place;
  size = length (block_bytes kind block);
}

-- and of blocks one behind the other from this place on
abbrev pub entries_of : Kind → ℕ → List (List Row) → List Entry
entries_of kind place [] = []
entries_of kind place (block ∷ blocks) = entry_of kind place block ∷ entries_of kind (place + length (block_bytes kind block)) blocks

-- what a block may hold: 1 to 1,000 points of a kind, each later than the one before, with values of 64 bits
pub record IsHeld (kind : Kind) (block : List Row) : Type 0 where
  pub are_points : ArePoints kind block
  pub in_range : All IsInRange (values_of block)

-- ---- files

-- the bytes of the blocks of one key
abbrev pub key_bytes : KeyBlocks → List ℕ
key_bytes one = flat_map (block_bytes one.kind) one.blocks

-- the bytes of all blocks, key by key
abbrev pub all_blocks : List KeyBlocks → List ℕ
all_blocks keys = flat_map key_bytes keys

-- what the index says of a key whose blocks begin at this place
abbrev pub row_of : ℕ → KeyBlocks → KeyRow
row_of place one = record { key = one.key; kind = one.kind; entries = entries_of one.kind place one.blocks }

-- and of keys one behind the other from this place on
abbrev pub rows_of : ℕ → List KeyBlocks → List KeyRow
rows_of place [] = []
rows_of place (one ∷ keys) = row_of place one ∷ rows_of (place + length (key_bytes one)) keys

-- where the index begins: behind the header and the blocks
abbrev pub index_at : List KeyBlocks → ℕ
index_at keys = first_block + length (all_blocks keys)

-- the header, the blocks, the index, and the footer with the place of the index (8)
abbrev pub file_bytes : List KeyBlocks → List ℕ
file_bytes keys = header ++ all_blocks keys ++ index_bytes (rows_of first_block keys) ++ bytes_of_u64 (index_at keys)

-- Keys that a file may have: each block holds points of the key's kind, and the rows are an index. So the keys ascend,
-- hold the mark and have a block, and the times of a block come after those of the one before.
pub record AreKeys (keys : List KeyBlocks) : Type 0 where
  pub held : All (λ one. All (IsHeld one.kind) one.blocks) keys
  pub index : AreIndex (index_at keys) (rows_of first_block keys)

-- the bytes are a file of these keys, in whatever way their points are cut into blocks
pub record IsFile (bytes : List ℕ) (keys : List KeyBlocks) : Type 0 where
  pub are_keys : AreKeys keys
  pub spelled : file_bytes keys ≡ bytes

-- blocks of 1,000 points and a last one of 1 to 1,000
pub record IsCut (blocks : List (List Row)) : Type 0 where
  pub full : List (List Row)
  pub last : List Row
  pub are : full ++ last ∷ [] ≡ blocks
  pub each : All (λ block. length block ≡ 1000) full
  pub some : 1 ≤ length last
  pub most : length last ≤ 1000

-- the keys hold these points, each key's in blocks of 1,000 and a last one
pub record AreCut (keys : List KeyBlocks) (points : List KeyedPoint) : Type 0 where
  pub cut : All (λ one. IsCut one.blocks) keys
  pub all : all_points keys ≡ points
