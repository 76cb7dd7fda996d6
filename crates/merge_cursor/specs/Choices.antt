-- Which of two heads comes first?
use Rattle.std.specs.Prelude.{◌≡◌, ℕ, ℤ, Bool, Option, Some, None}
use Rattle.tsdb_types.specs.declared.value.Value.{Value}
use Rattle.point_model.specs.Rows.{Row}
use Rattle.merge_cursor.specs.Steps.{IsBefore}

-- a source, with the row that it gives
abbrev pub Found : Type 0
Found = Option (ℕ × ℤ × Value)

-- the head of a source is taken where nothing was found in newer ones, or where it comes before what was found
abbrev pub IsFirst : Bool → Found → ℕ → Option Row → Found → Type 0
IsFirst descending found source None result = result ≡ found
IsFirst descending None source (Some row) result = result ≡ Some (source, row.0, row.1)
IsFirst descending (Some first) source (Some row) result =
    (IsBefore descending row.0 first.1 → result ≡ Some (source, row.0, row.1)) × (¬ IsBefore descending row.0 first.1 → result ≡ Some first)
