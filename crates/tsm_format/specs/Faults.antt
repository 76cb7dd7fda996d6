-- What the bytes of an index are read as, and what is wrong with others.
use Rattle.std.specs.Prelude.{◌≡◌, ◌≢◌, ℕ, ◌+◌, List, [], ◌∷◌, ◌++◌, length, Option, None, Some, Result, Ok, Err, ◌⊎◌, ⊤}
use Rattle.std.specs.declared.vec.Vec.{Vec}
use Rattle.std.specs.declared.alloc.Global.{Global}
use Rattle.shard_disk.specs.declared.damage.Damage.{Damage}
use Rattle.shard_disk.specs.declared.damage.FormatFault.{FormatFault}
use Rattle.shard_disk.specs.declared.damage.FormatFault.TheVariants.{Damaged, Memory}
use Rattle.shard_disk.specs.declared.damage.Why.TheVariants.{Keys}
use Rattle.tsm_format.specs.declared.row.KeyRow.{KeyRow}
use Rattle.tsm_format.specs.Rows.{IsRow, AreRows, AreIndex, first_block, end_of}
use Rattle.tsm_format.specs.Format.{row_bytes, index_bytes}

-- the key of the last of the rows, or the one before them where there are none
abbrev pub last_key : Option (List ℕ) → List KeyRow → Option (List ℕ)
last_key last [] = last
last_key last (row ∷ rows) = last_key (Some row.key) rows

-- at the front of the bytes stands no row that may follow this key and whose blocks begin at this place
abbrev pub BeginsNone : Option (List ℕ) → ℕ → List ℕ → Type 0
BeginsNone last place bytes = (row : KeyRow) (rest : List ℕ) → IsRow last place row → bytes ≢ row_bytes row ++ rest

-- behind these rows there are bytes that begin with none that may follow
pub record IsCutBehind (bytes : List ℕ) (rows : List KeyRow) : Type 0 where
  pub good : AreRows None first_block rows
  pub rest : List ℕ
  pub whole : bytes ≡ index_bytes rows ++ rest
  pub some : rest ≢ []
  pub none : BeginsNone (last_key None rows) (end_of rows) rest

-- the rows are good, but there are none, or their blocks don't end where the index begins
pub record IsApart (start : ℕ) (bytes : List ℕ) (rows : List KeyRow) : Type 0 where
  pub good : AreRows None first_block rows
  pub whole : bytes ≡ index_bytes rows
  pub apart : (rows ≡ []) ⊎ (end_of rows ≢ start)

-- What the index of a file with this number, which begins at this place of it, is read as: its rows, or the damage.
-- The first key that has a fault comes first, at its first byte; then an index that doesn't meet the blocks, at its
-- own place.
abbrev pub Reads : ℕ → ℕ → List ℕ → Result (List KeyRow) Damage → Type 0
Reads file start bytes (Ok rows) = AreIndex start rows × (bytes ≡ index_bytes rows)
Reads file start bytes (Err damage) =
    ((rows : List KeyRow) × IsCutBehind bytes rows × (damage ≡ record { file = file; offset = start + length (index_bytes rows); why = Keys }))
    ⊎ ((rows : List KeyRow) × IsApart start bytes rows × (damage ≡ record { file = file; offset = start; why = Keys }))

-- a call that reads an index answered what it is read as, or that memory ran out
abbrev pub Answers : Result (Vec KeyRow Global) FormatFault → Result (List KeyRow) Damage → Type 0
Answers (Ok rows) answer = answer ≡ Ok rows.items
Answers (Err (Damaged damage)) answer = answer ≡ Err damage
Answers (Err Memory) answer = ⊤
