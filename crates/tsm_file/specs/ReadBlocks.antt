-- What stands at the place of a block, and which points a key of a file has.
use Rattle.std.specs.Prelude.{◌≡◌, ◌≢◌, ℕ, ◌+◌, ◌≤◌, ◌<◌, ◌^◌, ℤ, List, [], ◌∷◌, ◌++◌, length, Result, Ok, Err, ◌⊎◌, ⊤, All}
use Rattle.std.specs.declared.vec.Vec.{Vec}
use Rattle.std.specs.declared.alloc.Global.{Global}
use Rattle.fixed_width.specs.Fields.{bytes_of_u32}
use Rattle.shard_disk.specs.Directory.{bytes_at}
use Rattle.shard_disk.specs.declared.damage.Damage.{Damage}
use Rattle.shard_disk.specs.declared.damage.Why.TheVariants.{Sum, Block}
use Rattle.tsdb_types.specs.declared.value.Kind.{Kind}
use Rattle.tsdb_types.specs.Values.{kind_of}
use Rattle.word_codec.specs.Crc32.{crc32_of}
use Rattle.value_codec.specs.Coding.{IsInRange}
use Rattle.block_codec.specs.Blocks.{ArePoints, coded_block, values_of}
use Rattle.tsm_format.specs.declared.entry.Entry.{Entry}
use Rattle.tsm_format.specs.declared.row.KeyRow.{KeyRow}
use Rattle.point_model.specs.Rows.{Row}
use Rattle.point_model.specs.declared.fault.CursorFault.{CursorFault}
use Rattle.point_model.specs.declared.fault.CursorFault.TheVariants.{Fault, Damaged, Memory}
use Rattle.tsm_file.specs.ReadIndex.{HasKey, LacksKey}

-- the bytes at the place of a block
abbrev pub held_at : List ℕ → Entry → List ℕ
held_at bytes entry = bytes_at bytes entry.offset entry.size

-- the place lies within the bytes
abbrev pub IsWithin : List ℕ → Entry → Type 0
IsWithin bytes entry = entry.offset + entry.size ≤ length bytes

-- the last time of points, of which the first has this time
abbrev pub last_time : ℤ → List Row → ℤ
last_time time [] = time
last_time time (point ∷ points) = last_time point.0 points

-- the first of the points has this time
abbrev pub BeginsAt : ℤ → List Row → Type 0
BeginsAt time [] = ⊥
BeginsAt time (point ∷ points) = point.0 ≡ time

-- the last of the points has this time
abbrev pub EndsAt : ℤ → List Row → Type 0
EndsAt time [] = ⊥
EndsAt time (point ∷ points) = last_time point.0 points ≡ time

-- the first and the last time of the points are those of the entry
abbrev pub Spans : Entry → List Row → Type 0
Spans entry points = BeginsAt entry.min points × EndsAt entry.max points

-- the first of the points is of this kind
abbrev pub BeginsAs : Kind → List Row → Type 0
BeginsAs kind [] = ⊥
BeginsAs kind (point ∷ points) = kind_of point.1 ≡ kind

-- The bytes are the checksum and the block of these points. The values are of this kind, and numbers of 64 bits; the
-- first and the last time are those of the entry.
pub record IsBlockOf (kind : Kind) (entry : Entry) (held : List ℕ) (points : List Row) : Type 0 where
  pub stored : held ≡ bytes_of_u32 (crc32_of (coded_block kind points)) ++ coded_block kind points
  pub are_points : ArePoints kind points
  pub in_range : All IsInRange (values_of points)
  pub spans : Spans entry points

-- the checksum in front isn't that of the bytes behind it
pub record HasOtherSum (held : List ℕ) (stored computed : ℕ) : Type 0 where
  pub behind : List ℕ
  pub fits : stored < 2 ^ 32
  pub parts : held ≡ bytes_of_u32 stored ++ behind
  pub is : crc32_of behind ≡ computed
  pub other : stored ≢ computed

-- What is wrong with the block of an entry that has these bytes. A wrong checksum comes first. Else the bytes are no
-- block, or one of another kind, another first or another last time. The damage stands at the entry's offset.
abbrev pub IsWrong : ℕ → Kind → Entry → List ℕ → Damage → Type 0
IsWrong file kind entry held damage =
    ((stored : ℕ) × (computed : ℕ) × HasOtherSum held stored computed
    × (damage ≡ record { file = file; offset = entry.offset; why = Sum stored computed }))
    ⊎ (((stored computed : ℕ) → ¬ HasOtherSum held stored computed) × ((points : List Row) → ¬ IsBlockOf kind entry held points)
    × (damage ≡ record { file = file; offset = entry.offset; why = Block }))

-- a call that reads a sound block answered its points, or that the device failed or memory ran out
abbrev pub AnswersBlock : Result (Vec Row Global) CursorFault → List Row → Type 0
AnswersBlock (Ok found) points = found.items ≡ points
AnswersBlock (Err (Damaged damage)) points = ⊥
AnswersBlock (Err Fault) points = ⊤
AnswersBlock (Err Memory) points = ⊤

-- the blocks of these entries have these points, one block behind the other
abbrev pub HavePoints : List ℕ → Kind → List Entry → List Row → Type 0
HavePoints bytes kind [] points = points ≡ []
HavePoints bytes kind (entry ∷ entries) points =
    (first : List Row) × (rest : List Row) × IsBlockOf kind entry (held_at bytes entry) first × HavePoints bytes kind entries rest
    × (points ≡ first ++ rest)

-- the points of a key of a file with these rows are those of its blocks; a key that the file lacks has none
abbrev pub KeyHas : List ℕ → List KeyRow → List ℕ → List Row → Type 0
KeyHas bytes rows key points =
    ((row : KeyRow) × HasKey rows key row × HavePoints bytes row.kind row.entries points) ⊎ (LacksKey rows key × (points ≡ []))
