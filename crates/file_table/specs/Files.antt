-- Which files do rows and condemned files name?
use Rattle.std.specs.Prelude.{ℕ, List, ◌∷◌, map, filter, ◌==◌}
use Rattle.std.specs.Option.{option_to_list}
use Rattle.file_table.specs.declared.row.FileRow.{FileRow}
use Rattle.file_table.specs.declared.condemned.Condemned.{Condemned}

-- the file of a row, and its tombstone file where it has one
abbrev pub files_of : FileRow → List ℕ
files_of row = row.no ∷ option_to_list row.tomb

-- a condemned file that nobody has in use
abbrev pub unused : ℕ → Condemned
unused number = record { no = number; holds = 0 }

-- What a row's files are once they are condemned: its own with the holds that it had, its tombstone file without.
abbrev pub condemned_of : FileRow → List Condemned
condemned_of row = record { no = row.no; holds = row.holds } ∷ map unused (option_to_list row.tomb)

-- the numbers of rows
abbrev pub row_numbers_of : List FileRow → List ℕ
row_numbers_of rows = map (λ row. row.no) rows

-- the generations of rows
abbrev pub generations_of : List FileRow → List ℕ
generations_of rows = map (λ row. row.generation) rows

-- the numbers of condemned files
abbrev pub numbers_of : List Condemned → List ℕ
numbers_of files = map (λ file. file.no) files

-- the numbers of those condemned files that nobody has in use
abbrev pub free_of : List Condemned → List ℕ
free_of files = numbers_of (filter (λ file. file.holds == 0) files)
