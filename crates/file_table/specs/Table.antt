-- What is a file table?
use Rattle.std.specs.Prelude.{◌≡◌, ◌⊎◌, ℕ, ◌+◌, ◌^◌, ◌<◌, List, [], ◌++◌, Any, nat_eq}
use Rattle.std.specs.List.{flat_map, IsDistinct}
use Rattle.std.specs.List.Sorted.{IsStrictlyIncreasing}
use Rattle.file_table.specs.declared.row.FileRow.{FileRow}
use Rattle.file_table.specs.declared.condemned.Condemned.{Condemned}
use Rattle.file_table.specs.Files.{files_of, generations_of, numbers_of, free_of}

-- Rows, oldest first; condemned files by number; the files that were forgotten; and how many rows and how many condemned
-- files that were no rows there is room for besides.
pub record Table : Type 0 where
  pub rows : List FileRow
  pub condemned : List Condemned
  pub gone : List ℕ
  pub row_room : ℕ
  pub file_room : ℕ

-- every file that the table names: those of its rows and the condemned ones
abbrev pub names : Table → List ℕ
names table = flat_map files_of table.rows ++ numbers_of table.condemned

-- Generations and condemned files ascend, and no file is named twice.
pub record IsTable (table : Table) : Type 0 where
  pub ascending : IsStrictlyIncreasing (generations_of table.rows)
  pub condemned : IsStrictlyIncreasing (numbers_of table.condemned)
  pub once : IsDistinct nat_eq (names table)

-- the condemned files that nobody has in use, ascending
abbrev pub free_files : Table → List ℕ
free_files table = free_of table.condemned

-- no file and no room
abbrev pub empty : Table
empty = record { rows = []; condemned = []; gone = []; row_room = 0; file_room = 0 }

-- none of these files is named twice, nor by the table
abbrev pub AreNew : List ℕ → Table → Type 0
AreNew files table = IsDistinct nat_eq (files ++ names table)

-- a row or a condemned file has this number, and one hold more can be counted
abbrev pub CanBeHeld : ℕ → Table → Type 0
CanBeHeld number table =
    Any (λ row. (row.no ≡ number) × (row.holds + 1 < 2 ^ 64)) table.rows
    ⊎ Any (λ file. (file.no ≡ number) × (file.holds + 1 < 2 ^ 64)) table.condemned
