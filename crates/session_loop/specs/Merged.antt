-- In which order are the rows of several keys shown?
use Rattle.std.specs.Prelude.{◌≡◌, ℕ, pos, negsuc, false, ◌+◌, nat_eq, List, [], ◌++◌, ◌∷◌, ◌⊎◌, map, drop, slice_get, slice_set, Some, if◌then◌else◌}
use Rattle.std.specs.declared.cmp.Ordering.{Ordering}
use Rattle.std.specs.Ordering.{nat_cmp, int_cmp, ordering_then}
use Rattle.std.specs.Ordering.{is_lt}
use Rattle.std.specs.Cmp.Lexicographic.{pointwise}
use Rattle.std.specs.Bool.{MatchBool}
use Rattle.std.specs.List.Sorted.{IsPermutation, IsSortedBy}
use Rattle.point_model.specs.Conditions.{True}
use Rattle.point_model.specs.declared.need.Need.{Need}
use Rattle.point_model.specs.Rows.{Row}
use Rattle.point_model.specs.Cursors.{Key, Shown}
use Rattle.session_model.specs.Machine.{shown_row}
use Rattle.session_model.specs.Readable.{IsReadableRow}
use Rattle.session_loop.specs.declared.select.Found.{Found}

-- a row, with the place of its key
abbrev pub at_place : ℕ → Row → Found
at_place place row = record { time = row.0; key = place; value = row.1 }

-- the rows of a key, where it is one of the field
abbrev pub rows_at : List ℕ → ℕ → Key → List Row → List Found
rows_at field place key rows = if pointwise nat_eq key.1 field then map (at_place place) rows else []

-- the rows of those keys that are of the field, with the places of the keys from this one on
abbrev pub rows_from : List ℕ → ℕ → List Key → List (List Row) → List Found
rows_from field place [] left = []
rows_from field place (key ∷ keys) [] = []
rows_from field place (key ∷ keys) (rows ∷ left) = rows_at field place key rows ++ rows_from field (place + 1) keys left

-- by time and, at one time, by the places of the keys
abbrev pub found_cmp : Found → Found → Ordering
found_cmp a b = ordering_then (int_cmp a.time b.time) (nat_cmp a.key b.key)

abbrev pub row_found : Found → Row
row_found found = (found.time, found.value)

-- each row is no earlier than the one before it, and at one time its key has no earlier place
abbrev pub AreInOrder : List Found → Type 0
AreInOrder rows = IsSortedBy (λ a b. is_lt (found_cmp a b)) rows

-- These are the rows of the field that a view had left, where it tells them: those of all keys of the field, in order.
abbrev pub AreRowsOf : List ℕ → Shown → List Row → Type 0
AreRowsOf field shown rows = (left : List (List Row)) → shown.left ≡ Some left
    → (order : List Found) × IsPermutation (rows_from field 0 shown.keys left) order × AreInOrder order × (rows ≡ map row_found order)

-- all rows that are left of the key at this place are taken, and stand behind those that were found before
abbrev pub TakesKey : ℕ → List Found → List Found → List (List Row) → List (List Row) → Type 0
TakesKey key old new left rest =
    (rows : List Row) × (slice_get left key ≡ Some rows) × (rest ≡ slice_set left key []) × (new ≡ old ++ map (at_place key) rows)

-- the same where the key is one of the field; else nothing is taken
abbrev pub TakesField : List ℕ → List Key → ℕ → List Found → List Found → List (List Row) → List (List Row) → Type 0
TakesField field keys place old new left rest = (key : Key) → slice_get keys place ≡ Some key
    → MatchBool (pointwise nat_eq key.1 field) (TakesKey place old new left rest) ((new ≡ old) × (rest ≡ left))

-- the same of the first rows that are left, or of none
abbrev pub TakesFront : ℕ → List Found → List Found → List (List Row) → List (List Row) → Type 0
TakesFront key old new left rest = ((new ≡ old) × (rest ≡ left))
    ⊎ ((taken behind : List Row) × (slice_get left key ≡ Some (taken ++ behind)) × (rest ≡ slice_set left key behind)
    × (new ≡ old ++ map (at_place key) taken))

-- the rows of the field's keys from this place on are still to be taken
abbrev pub AreToTake : List ℕ → List Key → List Found → List (List Row) → ℕ → List Found → List (List Row) → Type 0
AreToTake field keys first left place found rest =
    found ++ rows_from field place (drop place keys) (drop place rest) ≡ first ++ rows_from field 0 keys left

-- the rows of all keys of the field are taken, and stand behind those that were found before, where the view tells them
abbrev pub TakesRows : List ℕ → Shown → List Found → List Found → Type 0
TakesRows field shown old new = (left : List (List Row)) → shown.left ≡ Some left → new ≡ old ++ rows_from field 0 shown.keys left

-- what the need asks for is all that there is: every series, every time, ascending
pub record AsksAll (need : Need) : Type 0 where
  pub tags : need.tags ≡ True
  pub from : need.from ≡ negsuc 9223372036854775805
  pub to : need.to ≡ pos 9223372036854775806
  pub ascending : need.descending ≡ false

-- the time and the number of a row are of 64 bits
abbrev pub IsReadableFound : Row → Type 0
IsReadableFound row = IsReadableRow (shown_row row)
