-- The text of a table.
use Rattle.std.proofs.Common.{◌≡◌, ◌<◌, ◌++◌, ◌∷◌, [], ℕ, List, length, ap, codes, map, arith}
use Rattle.std.specs.List.{flat_map}
use Rattle.std.proofs.lemmas.List.{append-nil}
use Rattle.point_model.specs.Rows.{Row}
use Rattle.session_model.specs.Replies.{Table, row_line, table_lines, ended}
use Rattle.session_model.specs.Machine.{shown_row, tables_of}

-- a field with rows has one table
pub tables_text : (measurement field : List ℕ) (rows : List Row) → 0 < length rows
    → ended (flat_map table_lines (tables_of measurement field rows))
    ≡ ((codes "name: " ++ measurement) ++ 10 ∷ []) ++ (((codes "time " ++ field) ++ 10 ∷ []) ++ ended (map row_line (map shown_row rows)))
tables_text measurement field [] some = absurd (omega arith)
tables_text measurement field (row ∷ rows) some =
    let table : Table = record { measurement = measurement; field = field; rows = map shown_row (row ∷ rows) } in
    ap ended (append-nil (table_lines table))
