-- What do the TSM files of a directory hold?
use Rattle.std.specs.Prelude.{ℕ, List, [], ◌∷◌, nat_lt, if◌then◌else◌}
use Rattle.std.specs.BTreeMap.{insert_entry}
use Rattle.shard_disk.specs.Directory.{Directory, HasFile}
use Rattle.file_table.specs.declared.row.FileRow.{FileRow}
use Rattle.point_model.specs.Points.{Points, cell_cmp, no_points}

-- The bytes are a file with this row, whose live points are these. No engine makes such a file yet, so a directory that names one
-- stands for nothing.
abbrev pub IsLayer : FileRow → Points → List ℕ → Type 0
IsLayer row layer bytes = ⊥

-- the row before the first that is younger
abbrev pub with_row : FileRow → List FileRow → List FileRow
with_row row [] = row ∷ []
with_row row (other ∷ rows) = if nat_lt row.generation other.generation then row ∷ other ∷ rows else other ∷ with_row row rows

-- the rows by their generations, the oldest first
abbrev pub by_age : List FileRow → List FileRow
by_age [] = []
by_age (row ∷ rows) = with_row row (by_age rows)

-- the file of each row is its layer
abbrev pub HasLayers : Directory → List FileRow → List Points → Type 0
HasLayers files [] [] = Unit {0}
HasLayers files [] (layer ∷ layers) = ⊥
HasLayers files (row ∷ rows) [] = ⊥
HasLayers files (row ∷ rows) (layer ∷ layers) = HasFile files row.no (IsLayer row layer) × HasLayers files rows layers

-- the newer points over the older ones
abbrev pub over : Points → Points → Points
over older [] = older
over older (point ∷ newer) = over (insert_entry cell_cmp older point.0 point.1) newer

abbrev pub all_over : Points → List Points → Points
all_over older [] = older
all_over older (layer ∷ layers) = all_over (over older layer) layers

-- the layers, oldest first, one over the other
abbrev pub overlay : List Points → Points
overlay layers = all_over no_points layers
