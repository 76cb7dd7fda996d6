-- What do the calls make of a table?
use Rattle.std.specs.Prelude.{◌≡◌, ℕ, ◌+◌, ◌<◌, ◌≤◌, ◌==◌, Bool, List, [], ◌∷◌, ◌++◌, map, take, drop, length, Option, nat_eq, if◌then◌else◌}
use Rattle.std.specs.Option.{option_to_list}
use Rattle.std.specs.List.{flat_map, IsDistinct}
use Rattle.std.specs.List.Sorted.{IsPermutation, IsStrictlyIncreasing}
use Rattle.file_table.specs.declared.row.FileRow.{FileRow}
use Rattle.file_table.specs.declared.condemned.Condemned.{Condemned}
use Rattle.file_table.specs.Files.{files_of, condemned_of, unused, generations_of}
use Rattle.file_table.specs.Table.{Table, AreNew}

-- There is room for so many rows and files at least, and no less than before; all else is the same.
pub record Reserves (rows files : ℕ) (old new : Table) : Type 0 where
  pub for_rows : rows ≤ new.row_room
  pub for_files : files ≤ new.file_room
  pub rows_kept : old.row_room ≤ new.row_room
  pub files_kept : old.file_room ≤ new.file_room
  pub same : new ≡ record old { row_room = new.row_room; file_room = new.file_room }

-- A row that may be put in: there is room, nobody has it in use, and its files are new.
pub record MayEnter (row : FileRow) (table : Table) : Type 0 where
  pub room : 0 < table.row_room
  pub idle : row.holds ≡ 0
  pub files : AreNew (files_of row) table

-- no row has this generation
abbrev pub IsNewGeneration : ℕ → Table → Type 0
IsNewGeneration generation table = IsDistinct nat_eq (generation ∷ generations_of table.rows)

-- the row stands among the others, which are the same
pub record Places (row : FileRow) (old new : Table) : Type 0 where
  pub rows : IsPermutation (row ∷ old.rows) new.rows
  pub room : new.row_room + 1 ≡ old.row_room
  pub same : new ≡ record old { rows = new.rows; row_room = new.row_room }

-- so many rows from a place on give way to this one or to none
abbrev pub replaced : ℕ → ℕ → Option FileRow → List FileRow → List FileRow
replaced first count row rows = take first rows ++ (option_to_list row ++ drop (first + count) rows)

-- a row that may be put in there: its generation lies between those of its neighbours
pub record MayReplace (first count : ℕ) (table : Table) (row : FileRow) : Type 0 where
  pub enters : MayEnter row table
  pub between : IsStrictlyIncreasing (generations_of (take first table.rows ++ row ∷ drop (first + count) table.rows))

-- The rows give way, and their files are condemned besides the others, with the holds that they had.
pub record Replaces (first count : ℕ) (row : Option FileRow) (old new : Table) : Type 0 where
  pub rows : new.rows ≡ replaced first count row old.rows
  pub condemned : IsPermutation (flat_map condemned_of (take count (drop first old.rows)) ++ old.condemned) new.condemned
  pub room : new.row_room + length (option_to_list row) ≡ old.row_room
  pub same : new ≡ record old { rows = new.rows; condemned = new.condemned; row_room = new.row_room }

-- one file more is condemned, which nobody has in use
pub record Condemns (no : ℕ) (old new : Table) : Type 0 where
  pub condemned : IsPermutation (unused no ∷ old.condemned) new.condemned
  pub room : new.file_room + 1 ≡ old.file_room
  pub same : new ≡ record old { condemned = new.condemned; file_room = new.file_room }

-- the condemned file, which nobody has in use, is forgotten: its number stands last among those that are gone
pub record Forgets (no : ℕ) (old new : Table) : Type 0 where
  pub condemned : IsPermutation old.condemned (unused no ∷ new.condemned)
  pub same : new ≡ record old { condemned = new.condemned; gone = old.gone ++ no ∷ [] }

-- the rows with the holds of this number's changed so
abbrev pub rows_with_holds : (ℕ → ℕ) → ℕ → List FileRow → List FileRow
rows_with_holds change number rows = map (λ (row : FileRow). if row.no == number then record row { holds = change row.holds } else row) rows

-- the condemned files with the holds of this number's changed so
abbrev pub files_with_holds : (ℕ → ℕ) → ℕ → List Condemned → List Condemned
files_with_holds change number files = map (λ (file : Condemned). if file.no == number then record file { holds = change file.holds } else file) files

-- the table with the holds of this number's file changed so
abbrev pub with_holds : (ℕ → ℕ) → ℕ → Table → Table
with_holds change number table = record table {
  rows = rows_with_holds change number table.rows;
  condemned = files_with_holds change number table.condemned;
}

-- the rows with this number's having these tombstones, or none
abbrev pub rows_with_tomb : ℕ → Option ℕ → List FileRow → List FileRow
rows_with_tomb number tomb rows = map (λ (row : FileRow). if row.no == number then record row { tomb = tomb } else row) rows

-- the table with this number's row having these tombstones, or none
abbrev pub with_tomb : ℕ → Option ℕ → Table → Table
with_tomb number tomb table = record table { rows = rows_with_tomb number tomb table.rows }

-- the rows with so many from a place on marked so
abbrev pub marked : ℕ → ℕ → Bool → List FileRow → List FileRow
marked first count busy rows =
    take first rows ++ (map (λ (row : FileRow). record row { busy = busy }) (take count (drop first rows)) ++ drop (first + count) rows)

-- the table with so many rows from a place on marked so
abbrev pub with_busy : ℕ → ℕ → Bool → Table → Table
with_busy first count busy table = record table { rows = marked first count busy table.rows }
