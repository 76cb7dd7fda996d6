-- How a set is kept: its keys in order, each with its ranges.
use Rattle.std.specs.Prelude.{◌≢◌, ℕ, ◌^◌, ◌<◌, List, [], map, length, Bool}
use Rattle.std.specs.List.{flat_map, AllByRecursion}
use Rattle.std.specs.List.Sorted.{IsStrictlySortedBy}
use Rattle.std.specs.Ordering.{nat_cmp, is_eq}
use Rattle.std.specs.Cmp.Lexicographic.{slice_cmp}
use Rattle.std.specs.Map.{keys_of}
use Rattle.std.specs.declared.vec.Vec.{Vec}
use Rattle.std.specs.declared.alloc.Global.{Global}
use Rattle.tombstones.specs.declared.range.TombRange.{TombRange}
use Rattle.tombstones.specs.Covered.{Tomb}

-- a key and its ranges
abbrev pub Row : Type 0
Row = Vec ℕ Global × List TombRange

-- each of the ranges with the key
abbrev pub tombs_with : List ℕ → List TombRange → List Tomb
tombs_with key ranges = map (λ range. record { key = key; range = range }) ranges

-- the tombstones of a row
abbrev pub tombs_of_row : Row → List Tomb
tombs_of_row row = tombs_with row.0.items row.1

-- the tombstones of the rows, in order
abbrev pub tombs_of : List Row → List Tomb
tombs_of rows = flat_map tombs_of_row rows

-- whether a key that is kept is the one that is looked for
abbrev pub finds : List ℕ → Vec ℕ Global → Bool
finds key kept = is_eq (slice_cmp nat_cmp key kept.items)

-- the key has a range, and can be written
pub record IsRow (row : Row) : Type 0 where
  pub some : row.1 ≢ []
  pub short : length row.0.items < 2 ^ 32

-- the keys ascend, none twice
pub record AreRows (rows : List Row) : Type 0 where
  pub ascending : IsStrictlySortedBy (λ (x y : Vec ℕ Global). slice_cmp nat_cmp x.items y.items) (keys_of rows)
  pub each : AllByRecursion IsRow rows
