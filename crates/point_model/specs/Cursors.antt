-- What is it that a cursor gives of the points?
use Rattle.std.specs.Prelude.{◌≡◌, ◌↔◌, ℕ, ℤ, int_le, nat_eq, Bool, true, false, ◌&&◌, IsTrue, List, [], ◌∷◌, map, reverse, All, Any, Contains, Option, Some, None, ⊤, MatchOption, IsSome, slice_get, slice_set, if◌then◌else◌}
use Rattle.std.specs.declared.cmp.Ordering.{Ordering}
use Rattle.std.specs.Ordering.{nat_cmp, ordering_then}
use Rattle.std.specs.Cmp.Lexicographic.{pointwise, slice_cmp}
use Rattle.std.specs.List.Sorted.{IsStrictlySortedBy}
use Rattle.std.specs.Map.{keys_of}
use Rattle.tsdb_types.specs.Names.{IsName}
use Rattle.tsdb_types.specs.Series.{series_text, is_series_of}
use Rattle.tsdb_types.specs.Values.{kind_of}
use Rattle.tsdb_types.specs.declared.point.Cell.{Cell}
use Rattle.tsdb_types.specs.declared.tag.Tag.{Tag}
use Rattle.tsdb_types.specs.declared.value.Value.{Value}
use Rattle.tsdb_types.specs.declared.value.Kind.{Kind}
use Rattle.point_model.specs.declared.need.Need.{Need}
use Rattle.point_model.specs.declared.names.Names.{Names}
use Rattle.point_model.specs.Conditions.{meets}
use Rattle.point_model.specs.Contents.{Content}
use Rattle.point_model.specs.Points.{Points, value_at}
use Rattle.point_model.specs.Rows.{Row, is_of}

-- the text of a series, and a field of it
abbrev pub Key : Type 0
Key = List ℕ × List ℕ

-- by the text of the series, then by field
abbrev pub key_cmp : Key → Key → Ordering
key_cmp a b = ordering_then (slice_cmp nat_cmp a.0 b.0) (slice_cmp nat_cmp a.1 b.1)

abbrev pub cell_at : Key → ℤ → Cell
cell_at key time = record { time = time; series = key.0; field = key.1 }

-- something is live at a cell of the key
abbrev pub HasKey : Content → Key → Type 0
HasKey content key = (time : ℤ) × IsSome (content (cell_at key time))

-- the series is of the measurement, and has a tag with this key
abbrev pub HasTagKey : List ℕ → List ℕ → List ℕ → Type 0
HasTagKey measurement key series =
    (tags : List Tag) × All (λ tag. IsName tag.key × IsName tag.value) tags × (series ≡ series_text measurement tags)
    × Any (λ tag. tag.key ≡ key) tags

-- the fields with their kinds that the points have in the measurement, ascending
pub record AreFields (points : Points) (measurement : List ℕ) (fields : List (List ℕ × Kind)) : Type 0 where
  pub ascend : IsStrictlySortedBy (slice_cmp nat_cmp) (keys_of fields)
  pub exact : (field : List ℕ) (kind : Kind) → Contains fields (field, kind)
      ↔ ((cell : Cell) × (value : Value) × (value_at points cell ≡ Some value) × IsTrue (is_of measurement field cell) × (kind_of value ≡ kind))

-- the tag keys that the series with points have in the measurement, ascending
pub record AreTagKeys (points : Points) (measurement : List ℕ) (tag_keys : List (List ℕ)) : Type 0 where
  pub ascend : IsStrictlySortedBy (slice_cmp nat_cmp) tag_keys
  pub exact : (key : List ℕ) → Contains tag_keys key
      ↔ ((cell : Cell) × IsSome (value_at points cell) × HasTagKey measurement key cell.series)

-- the keys with points whose series is of the measurement and meets the tags, ascending
pub record AreKeys (points : Points) (need : Need) (keys : List Key) : Type 0 where
  pub ascend : IsStrictlySortedBy key_cmp keys
  pub exact : (key : Key) → Contains keys key
      ↔ ((time : ℤ) × IsSome (value_at points (cell_at key time)) × IsTrue (is_series_of need.measurement key.0 && meets need.tags key.0))

-- the cell is of the key, and its time one of those between the bounds, both included
abbrev pub is_wanted : Key → ℤ → ℤ → Cell → Bool
is_wanted key from to cell =
    (pointwise nat_eq cell.series key.0 && pointwise nat_eq cell.field key.1) && (int_le from cell.time && int_le cell.time to)

-- the points of a key between the bounds, in the order of their times
abbrev pub rows_between : ℤ → ℤ → Points → Key → List Row
rows_between from to [] key = []
rows_between from to (point ∷ points) key =
    if is_wanted key from to point.0 then (point.0.time, point.1) ∷ rows_between from to points key
    else rows_between from to points key

-- ascending, or descending where that is asked for
abbrev pub in_order : Bool → List Row → List Row
in_order false rows = rows
in_order true rows = reverse rows

-- what the need asks of a key
abbrev pub rows_needed : Need → Points → Key → List Row
rows_needed need points key = in_order need.descending (rows_between need.from need.to points key)

-- What a cursor shows: the number of the last entry that it sees, its names, its keys, and the points that are left of
-- each key, where it tells them.
pub record Shown : Type 0 where
  pub number : ℕ
  pub names : Names
  pub keys : List Key
  pub left : Option (List (List Row))

-- the cursor gives these points under the need: their names, their keys, and the points of each key
pub record Gives (points : Points) (need : Need) (shown : Shown) : Type 0 where
  pub fields : AreFields points need.measurement shown.names.fields
  pub tag_keys : AreTagKeys points need.measurement shown.names.tag_keys
  pub keys : AreKeys points need shown.keys
  pub rows : shown.left ≡ Some (map (rows_needed need points) shown.keys)

-- the first point left of a key is taken, or there is none and none is taken
abbrev pub TakesFirst : Option Row → List Row → List Row → Type 0
TakesFirst answer old new = MatchOption answer ((old ≡ []) × (new ≡ [])) (λ row. old ≡ row ∷ new)

-- the first point left of this key is taken, and those of the other keys stay
pub record TakesOf (key : ℕ) (answer : Option Row) (old new : List (List Row)) : Type 0 where
  pub rows : List Row
  pub rest : List Row
  pub was : slice_get old key ≡ Some rows
  pub takes : TakesFirst answer rows rest
  pub others : new ≡ slice_set old key rest

-- a step of what is left, where the cursor tells it; it goes on to tell it, or not
abbrev pub Told : (List (List Row) → List (List Row) → Type 0) → Option (List (List Row)) → Option (List (List Row)) → Type 0
Told step None None = ⊤
Told step (Some old) (Some new) = step old new
Told step None (Some new) = ⊥
Told step (Some old) None = ⊥

-- the same where the cursor tells its points; names and keys stay
pub record Advances (key : ℕ) (answer : Option Row) (old new : Shown) : Type 0 where
  pub number : new.number ≡ old.number
  pub names : new.names ≡ old.names
  pub keys : new.keys ≡ old.keys
  pub rows : Told (TakesOf key answer) old.left new.left
