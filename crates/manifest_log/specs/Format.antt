-- Which bytes is an edit?
use Rattle.std.specs.Prelude.{ℕ, ◌+◌, ◌^◌, ◌<◌, ◌≤◌, List, ◌∷◌, ◌++◌, length, Option, None, Some}
use Rattle.std.specs.List.{flat_map, AllByRecursion}
use Rattle.fixed_width.specs.Fields.{bytes_of_u32, bytes_of_u64}
use Rattle.manifest_log.specs.declared.change.Change.{Change}
use Rattle.manifest_log.specs.declared.change.Change.TheVariants.{AddSegment, ForgetSegment, AddFile, RemoveFile, NameTombs, SetFloor, NameSeries, NameIndex}

-- a file that may be missing, as one number: it plus one, or 0
abbrev pub number_of : Option ℕ → ℕ
number_of None = 0
number_of (Some file) = file + 1

-- which change it is
abbrev pub kind_of : Change → ℕ
kind_of (AddSegment file) = 1
kind_of (ForgetSegment file) = 2
kind_of (AddFile file generation sequence level points most_entries tomb) = 3
kind_of (RemoveFile file) = 4
kind_of (NameTombs file tomb) = 5
kind_of (SetFloor number) = 6
kind_of (NameSeries file) = 7
kind_of (NameIndex log file) = 8

-- what stands behind the kind: numbers of four bytes but for generation, points and floor, of eight, and the level, of one
abbrev pub fields_of : Change → List ℕ
fields_of (AddSegment file) = bytes_of_u32 file
fields_of (ForgetSegment file) = bytes_of_u32 file
fields_of (AddFile file generation sequence level points most_entries tomb) =
    bytes_of_u32 file ++ (bytes_of_u64 generation ++ (bytes_of_u32 sequence ++ (level ∷ (bytes_of_u64 points ++ (bytes_of_u32 most_entries ++ bytes_of_u32 (number_of tomb))))))
fields_of (RemoveFile file) = bytes_of_u32 file
fields_of (NameTombs file tomb) = bytes_of_u32 file ++ bytes_of_u32 tomb
fields_of (SetFloor number) = bytes_of_u64 number
fields_of (NameSeries file) = bytes_of_u32 file
fields_of (NameIndex log file) = bytes_of_u32 log ++ bytes_of_u32 (number_of file)

-- the kind in one byte, and the fields
abbrev pub change_bytes : Change → List ℕ
change_bytes change = kind_of change ∷ fields_of change

-- the count of changes in four bytes, and one behind the other
abbrev pub edit_bytes : List Change → List ℕ
edit_bytes changes = bytes_of_u32 (length changes) ++ flat_map change_bytes changes

-- numbers that have room in their bytes
abbrev pub HasRoom : Change → Type 0
HasRoom (AddSegment file) = file < 2 ^ 32
HasRoom (ForgetSegment file) = file < 2 ^ 32
HasRoom (AddFile file generation sequence level points most_entries tomb) =
    (file < 2 ^ 32) × (generation < 2 ^ 64) × (sequence < 2 ^ 32) × (level < 256) × (points < 2 ^ 64) × (most_entries < 2 ^ 32) × (number_of tomb < 2 ^ 32)
HasRoom (RemoveFile file) = file < 2 ^ 32
HasRoom (NameTombs file tomb) = (file < 2 ^ 32) × (tomb < 2 ^ 32)
HasRoom (SetFloor number) = number < 2 ^ 64
HasRoom (NameSeries file) = file < 2 ^ 32
HasRoom (NameIndex log file) = (log < 2 ^ 32) × (number_of file < 2 ^ 32)

-- an edit that can be written: at most 2 ^ 30 bytes, and each number has room
pub record IsWritable (changes : List Change) : Type 0 where
  pub room : AllByRecursion HasRoom changes
  pub short : length (edit_bytes changes) ≤ 2 ^ 30
