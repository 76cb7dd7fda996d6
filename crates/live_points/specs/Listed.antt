-- What does a view take of the known keys and of the runs?
use Rattle.std.specs.Prelude.{ℕ, Bool, ◌&&◌, is_some, List, [], ◌∷◌, ◌++◌, Option, Some, None, if◌then◌else◌}
use Rattle.std.specs.BTreeMap.{BTreeMap, get}
use Rattle.std.specs.Option.{option_map_or}
use Rattle.tsdb_types.specs.Series.{is_series_of}
use Rattle.tsdb_types.specs.declared.value.Kind.{Kind}
use Rattle.point_model.specs.Conditions.{True, meets}
use Rattle.point_model.specs.declared.need.Need.{Need}
use Rattle.point_model.specs.Cursors.{Key, in_order}
use Rattle.point_model.specs.Rows.{Row}
use Rattle.point_cache.specs.declared.key_points.KeyRun.{KeyRun}
use Rattle.point_cache.specs.Cached.{points_at, rows_within}
use Rattle.store_trait.specs.Slots.{text_cmp}
use Rattle.live_points.specs.Held.{composite, kind_at}
use Rattle.live_points.specs.Known.{Samples}

-- the need asks for the series
abbrev pub is_needed : Need → List ℕ → Bool
is_needed need series = is_series_of need.measurement series && meets need.tags series

-- the key alone, where it has points
abbrev pub having_points : List KeyRun → Key → List Key
having_points runs key = if is_some (kind_at runs key) then key ∷ [] else []

-- the keys that a view shows: those that the need asks for and that have points
abbrev pub listed : List KeyRun → Need → List Key → List Key
listed runs need [] = []
listed runs need (key ∷ keys) = if is_needed need key.0 then having_points runs key ++ listed runs need keys else listed runs need keys

-- the rows of a composite key that a view shows
abbrev pub rows_between : List KeyRun → Need → List ℕ → List Row
rows_between runs need bytes = in_order need.descending (rows_within need.from need.to (points_at runs bytes))

-- the same of a key
abbrev pub rows_taken : List KeyRun → Need → Key → List Row
rows_taken runs need key = rows_between runs need (composite key)

-- the need of all series of its measurement
abbrev pub whole : Need → Need
whole need = record need { tags = True }

abbrev pub kind_before : List ℕ → Option Kind → List (List ℕ × Kind) → List (List ℕ × Kind)
kind_before field None kinds = kinds
kind_before field (Some kind) kinds = (field, kind) ∷ kinds

-- the fields whose samples have points, with their kinds
abbrev pub kinds_listed : List KeyRun → List (List ℕ × List ℕ) → List (List ℕ × Kind)
kinds_listed runs [] = []
kinds_listed runs (entry ∷ entries) = kind_before entry.0 (kind_at runs (entry.1, entry.0)) (kinds_listed runs entries)

-- the same of a measurement
abbrev pub kinds_of : List KeyRun → Samples → List ℕ → List (List ℕ × Kind)
kinds_of runs samples measurement = option_map_or (λ (fields : BTreeMap (List ℕ) (List ℕ)). kinds_listed runs fields.entries) (get text_cmp samples measurement) []
