-- Which bytes are a file of tombstones, and what is wrong with others.
use Rattle.std.specs.Prelude.{◌≡◌, ◌≢◌, ℕ, ◌+◌, ◌^◌, ◌<◌, List, [], ◌∷◌, ◌++◌, length, Result, Ok, Err, ◌⊎◌, ⊤, FitsSigned}
use Rattle.std.specs.List.{flat_map, AllByRecursion}
use Rattle.std.specs.Int.{w64}
use Rattle.fixed_width.specs.Fields.{bytes_of_u32, bytes_of_i64}
use Rattle.shard_disk.specs.declared.damage.Damage.{Damage}
use Rattle.shard_disk.specs.declared.damage.FormatFault.{FormatFault}
use Rattle.shard_disk.specs.declared.damage.FormatFault.TheVariants.{Damaged, Memory}
use Rattle.shard_disk.specs.declared.damage.Why.TheVariants.{Head, Body}
use Rattle.tombstones.specs.Covered.{Tomb, HideSame}

-- the mark of version 2
abbrev pub head : List ℕ
head = 0 ∷ 0 ∷ 21 ∷ 2 ∷ []

-- four bytes of the key's length, the key, and the first and the last time in eight bytes each
unfoldable pub tomb_bytes : Tomb → List ℕ
tomb_bytes tomb = bytes_of_u32 (length tomb.key) ++ tomb.key ++ bytes_of_i64 tomb.range.from ++ bytes_of_i64 tomb.range.to

-- the head, and the tombstones one behind the other
abbrev pub file_of : List Tomb → List ℕ
file_of tombs = head ++ flat_map tomb_bytes tombs

-- A tombstone that can be written. Its times may be any numbers of 64 bits, also those that are no moments.
pub record IsWritable (tomb : Tomb) : Type 0 where
  pub key : length tomb.key < 2 ^ 32
  pub from : FitsSigned w64 tomb.range.from
  pub to : FitsSigned w64 tomb.range.to

-- no whole tombstone stands at the front of the bytes
abbrev pub BeginsNone : List ℕ → Type 0
BeginsNone bytes = (tomb : Tomb) (rest : List ℕ) → IsWritable tomb → bytes ≢ tomb_bytes tomb ++ rest

-- the file begins otherwise
abbrev pub HasOtherHead : List ℕ → Type 0
HasOtherHead bytes = (rest : List ℕ) → bytes ≢ head ++ rest

-- behind these whole tombstones there are bytes that begin with none
pub record IsCutBehind (bytes : List ℕ) (tombs : List Tomb) : Type 0 where
  pub writable : AllByRecursion IsWritable tombs
  pub rest : List ℕ
  pub whole : bytes ≡ file_of tombs ++ rest
  pub some : rest ≢ []
  pub cut : BeginsNone rest

-- the same of the bytes behind the head
pub record IsCutTombs (file : ℕ) (bytes : List ℕ) (damage : Damage) : Type 0 where
  pub tombs : List Tomb
  pub writable : AllByRecursion IsWritable tombs
  pub rest : List ℕ
  pub whole : bytes ≡ flat_map tomb_bytes tombs ++ rest
  pub some : rest ≢ []
  pub cut : BeginsNone rest
  pub is : damage ≡ record { file = file; offset = 4 + length (flat_map tomb_bytes tombs); why = Body }

-- what the bytes of a file with this number are read as: its tombstones, or the damage, which is another head, at 0,
-- or a tombstone that is cut, at its first byte
abbrev pub Reads : ℕ → List ℕ → Result (List Tomb) Damage → Type 0
Reads file bytes (Ok tombs) = AllByRecursion IsWritable tombs × (bytes ≡ file_of tombs)
Reads file bytes (Err damage) =
    (HasOtherHead bytes × (damage ≡ record { file = file; offset = 0; why = Head }))
    ⊎ ((tombs : List Tomb) × IsCutBehind bytes tombs
    × (damage ≡ record { file = file; offset = length (file_of tombs); why = Body }))

-- A call that reads a file answered what the file is read as, or that memory ran out.
abbrev pub Answers : Result (List Tomb) FormatFault → Result (List Tomb) Damage → Type 0
Answers (Ok set) (Ok tombs) = HideSame tombs set
Answers (Ok set) (Err damage) = ⊥
Answers (Err (Damaged damage)) answer = answer ≡ Err damage
Answers (Err Memory) answer = ⊤
