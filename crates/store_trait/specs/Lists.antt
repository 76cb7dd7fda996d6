-- How does a list view keep the rows of its keys?
use Rattle.std.specs.Prelude.{List, Vec, map, reverse}
use Rattle.std.specs.declared.alloc.Global.{Global}
use Rattle.point_model.specs.Rows.{Row}

-- the rows of each key; they stand with the next one last
abbrev pub lists_of : List (Vec Row Global) → List (List Row)
lists_of rows = map (λ row. reverse row.items) rows
