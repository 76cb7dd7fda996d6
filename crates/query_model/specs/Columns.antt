-- Which columns does a table have, and what are they called?
use Rattle.std.specs.Prelude.{ℕ, zero, suc, not, List, [], ◌∷◌, ◌++◌, codes, decimal, map, filter, length, unwrap_or}
use Rattle.std.specs.Str.{bytes_eq}
use Rattle.point_model.specs.Points.{Points}
use Rattle.query_model.specs.declared.items.Agg.{Agg}
use Rattle.query_model.specs.declared.items.Agg.TheVariants.{Count, Sum, Min, Max, First, Last, Spread}
use Rattle.query_model.specs.declared.items.Items.{Items}
use Rattle.query_model.specs.declared.items.Items.TheVariants as items
use Rattle.query_model.specs.declared.items.Trans.{Trans}
use Rattle.query_model.specs.declared.items.Trans.TheVariants.{Difference, CumulativeSum, Elapsed}
use Rattle.query_model.specs.declared.select.Select.{Select}
use Rattle.query_model.specs.Records.{ascending, fields_of_measurement, is_among, tag_keys_of}
use Rattle.query_model.specs.Selected.{grouping_keys}

abbrev pub call_name : Agg → List ℕ
call_name Count = codes "count"
call_name Sum = codes "sum"
call_name Min = codes "min"
call_name Max = codes "max"
call_name First = codes "first"
call_name Last = codes "last"
call_name Spread = codes "spread"

abbrev pub trans_name : Trans → List ℕ
trans_name Difference = codes "difference"
trans_name CumulativeSum = codes "cumulative_sum"
trans_name (Elapsed unit) = codes "elapsed"

-- all fields of the measurement, and all tag keys by which it isn't grouped, ascending, each once
abbrev pub star_names : Select → Points → List (List ℕ)
star_names select points =
    ascending (fields_of_measurement select.measurement points
    ++ filter (λ key. not (is_among (grouping_keys select points) key)) (tag_keys_of select.measurement points))

-- the names whose values a table of plain names shows; aggregates and transformations show none
abbrev pub shown_names : Select → Points → Items → List (List ℕ)
shown_names select points items.Star = star_names select points
shown_names select points (items.Raw raw) = map (λ item. item.name) raw
shown_names select points (items.Agg aggregates) = []
shown_names select points (items.Trans item) = []

-- what the columns are called by themselves: an alias, else the name, or the call's name
abbrev pub given_names : Select → Points → Items → List (List ℕ)
given_names select points items.Star = star_names select points
given_names select points (items.Raw raw) = map (λ item. unwrap_or item.alias item.name) raw
given_names select points (items.Agg aggregates) = map (λ item. unwrap_or item.alias (call_name item.call)) aggregates
given_names select points (items.Trans item) = unwrap_or item.alias (trans_name item.call) ∷ []

-- the name of a column before which so many have the same one
abbrev pub told_apart : List ℕ → ℕ → List ℕ
told_apart name zero = name
told_apart name (suc others) = name ++ codes "_" ++ decimal (suc others)

-- The second column of a name has `_1` behind it, the third `_2`; the names as they were given are counted.
abbrev pub numbered : List (List ℕ) → List (List ℕ) → List (List ℕ)
numbered before [] = []
numbered before (name ∷ names) = told_apart name (length (filter (bytes_eq name) before)) ∷ numbered (before ++ name ∷ []) names

abbrev pub column_names : Select → Points → List (List ℕ)
column_names select points = numbered [] (given_names select points select.items)
