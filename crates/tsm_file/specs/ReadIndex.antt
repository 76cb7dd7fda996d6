-- What the bytes of a file are read as: the index that they have, or what is wrong with them.
use Rattle.std.specs.Prelude.{◌≡◌, ◌≢◌, ℕ, ◌-◌, ◌<◌, ◌≤◌, List, ◌++◌, length, take, drop, Result, Ok, Err, ◌⊎◌, ⊤, Contains, All}
use Rattle.fixed_width.specs.Fields.{bytes_of_u64}
use Rattle.shard_disk.specs.Directory.{bytes_at}
use Rattle.shard_disk.specs.declared.damage.Damage.{Damage}
use Rattle.shard_disk.specs.declared.damage.Why.TheVariants.{Foot}
use Rattle.tsm_format.specs.declared.row.KeyRow.{KeyRow}
use Rattle.tsm_format.specs.Rows.{AreIndex, end_of}
use Rattle.tsm_format.specs.Format.{index_bytes}
use Rattle.tsm_format.specs.Frame.{FrameOf, header, least_len}
use Rattle.tsm_format.specs.Faults.{Reads}
use Rattle.point_model.specs.declared.fault.CursorFault.{CursorFault}
use Rattle.point_model.specs.declared.fault.CursorFault.TheVariants.{Fault, Damaged, Memory}

-- the number of a file, and the keys of its index with their blocks, ascending
pub record Index : Type 0 where
  pub file : ℕ
  pub rows : List KeyRow

-- the row is that of the key
abbrev pub HasKey : List KeyRow → List ℕ → KeyRow → Type 0
HasKey rows key row = Contains rows row × (row.key ≡ key)

-- no row has the key
abbrev pub LacksKey : List KeyRow → List ℕ → Type 0
LacksKey rows key = All (λ row. row.key ≢ key) rows

-- The bytes have an index of these rows: the header, the bytes of the blocks, the rows, and in the footer the place
-- where these begin. Nothing is said of the blocks but where they stand.
pub record HasIndex (bytes : List ℕ) (rows : List KeyRow) : Type 0 where
  pub blocks : List ℕ
  pub whole : bytes ≡ header ++ blocks ++ index_bytes rows ++ bytes_of_u64 (end_of rows)
  pub good : AreIndex (length (header ++ blocks)) rows

-- where a file of these bytes says that its index begins, or what is wrong with its header or its footer
pub record Frames (file : ℕ) (bytes : List ℕ) (place : Result ℕ Damage) : Type 0 where
  pub long : least_len ≤ length bytes
  pub says : FrameOf file (length bytes) (take 5 bytes) (drop (length bytes - 8) bytes) place

-- the bytes from this place up to the footer
abbrev pub index_from : List ℕ → ℕ → List ℕ
index_from bytes start = bytes_at bytes start (length bytes - 8 - start)

-- the file is too short for a header and a footer, or else its header, or else its footer, is wrong
abbrev pub IsUnframed : ℕ → List ℕ → Damage → Type 0
IsUnframed file bytes damage =
    ((length bytes < least_len) × (damage ≡ record { file = file; offset = 0; why = Foot })) ⊎ Frames file bytes (Err damage)

-- What a file with this number and these bytes is read as: its index, or the damage. What is wrong with the frame comes
-- first, then what is wrong with the index.
abbrev pub ReadsFile : ℕ → List ℕ → Result Index Damage → Type 0
ReadsFile file bytes (Ok index) = (index.file ≡ file) × HasIndex bytes index.rows
ReadsFile file bytes (Err damage) =
    IsUnframed file bytes damage ⊎ ((start : ℕ) × Frames file bytes (Ok start) × Reads file start (index_from bytes start) (Err damage))

-- a call that reads an index answered what the file is read as, or that the device failed or memory ran out
abbrev pub AnswersIndex : Result Index CursorFault → Result Index Damage → Type 0
AnswersIndex (Ok index) answer = answer ≡ Ok index
AnswersIndex (Err (Damaged damage)) answer = answer ≡ Err damage
AnswersIndex (Err Fault) answer = ⊤
AnswersIndex (Err Memory) answer = ⊤
