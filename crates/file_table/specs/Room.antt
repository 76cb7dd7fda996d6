-- How much room do the lists of a table have?
use Rattle.std.specs.Prelude.{ℕ, ◌+◌, ◌*◌, ◌≤◌, length}
use Rattle.file_table.specs.Table.{Table, IsTable}

-- how many condemned files may be added before room is made again: two of each row that is there or has room
abbrev pub still_condemned : Table → ℕ
still_condemned table = 2 * (length table.rows + table.row_room) + table.file_room

-- A table whose lists have these capacities. Whatever is condemned has room, and so has in turn what is forgotten.
pub record IsKept (rows condemned gone : ℕ) (table : Table) : Type 0 where
  pub sound : IsTable table
  pub for_rows : length table.rows + table.row_room ≤ rows
  pub for_condemned : length table.condemned + still_condemned table ≤ condemned
  pub for_gone : length table.gone + length table.condemned + still_condemned table ≤ gone
