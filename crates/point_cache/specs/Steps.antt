-- What do the steps of a batch change, from point to point and from place to place?
use Rattle.std.specs.Prelude.{◌≡◌, ◌≢◌, ℕ, ◌+◌, ◌≤◌, ℤ, List, [], ◌∷◌, ◌++◌, ◌⊎◌, length, slice_get, None, Some}
use Rattle.std.specs.List.{AllByRecursion}
use Rattle.indexmap.specs.Layout.{set_value_at}
use Rattle.point_model.specs.Rows.{Row}
use Rattle.tsdb_types.specs.Keys.{key_of}
use Rattle.tsdb_types.specs.declared.point.Point.{Point}
use Rattle.point_cache.specs.declared.key_points.KeyRun.{KeyRun}
use Rattle.point_cache.specs.Cached.{latest, value_after}
use Rattle.point_cache.specs.Staged.{Staged, no_rows, Entry, lives, KeysApart, Among, Staging, WillHave, next_count, next_value}

-- the place has this key
abbrev pub HasKey : List Entry → ℕ → List ℕ → Type 0
HasKey entries place key = (staged : Staged) × (slice_get entries place ≡ Some (key, staged))

-- the committed points are as they were, and behind them there may be keys without any
pub record Grows (old new : List Entry) : Type 0 where
  pub more : List KeyRun
  pub lives : lives new ≡ lives old ++ more
  pub empty : AllByRecursion (λ run. run.points ≡ []) more

-- an entry without points is added for the key, or none is
abbrev pub AddsKey : List ℕ → List Entry → List Entry → Type 0
AddsKey key old new = (new ≡ old) ⊎ (new ≡ old ++ (key, no_rows) ∷ [])

-- the place is that of the key: it was there, or it is added without points
abbrev pub FindsKey : List ℕ → ℕ → List Entry → List Entry → Type 0
FindsKey key place old new = ((new ≡ old) × HasKey old place key) ⊎ ((new ≡ old ++ (key, no_rows) ∷ []) × (place ≡ length old))

-- the entry at the place is changed so, where there is one
abbrev pub ChangesAt : (Staged → Staged) → ℕ → List Entry → List Entry → Type 0
ChangesAt change place old new =
    ((slice_get old place ≡ None) × (new ≡ old)) ⊎ ((entry : Entry) × (slice_get old place ≡ Some entry) × (new ≡ set_value_at old place (change entry.1)))

-- what is staged is committed, or discarded
abbrev pub commit_of : Staged → Staged
commit_of staged = record { live = staged.next; next = staged.next }

abbrev pub discard_of : Staged → Staged
discard_of staged = record { live = staged.live; next = staged.live }

-- one point more is staged at the place; no key stands twice
pub record StagesAt (place : ℕ) (row : Row) (old new : List Entry) : Type 0 where
  pub entry : Entry
  pub was : slice_get old place ≡ Some entry
  pub is : new ≡ set_value_at old place (record { live = entry.1.live; next = entry.1.next ++ row ∷ [] })
  pub apart : KeysApart old

-- the points will be set in order, each key will have one where each was to have one, and there will be so many more
pub record WillSet (points : List Point) (old new : List Entry) : Type 0 where
  pub values : (key : List ℕ) (time : ℤ) → next_value new key time ≡ value_after points key time (next_value old key time)
  pub some : WillHave old → WillHave new
  pub counted : next_count new ≡ next_count old + length points

-- the entries hold the same, and will hold the same, in no more points
pub record Settles (old new : List Entry) : Type 0 where
  pub lives : lives new ≡ lives old
  pub values : (key : List ℕ) (time : ℤ) → next_value new key time ≡ next_value old key time
  pub some : WillHave old → WillHave new
  pub fewer : next_count new ≤ next_count old

-- the same of one entry
pub record SettlesRun (old new : Staged) : Type 0 where
  pub live : new.live ≡ old.live
  pub values : (time : ℤ) → latest new.next time ≡ latest old.next time
  pub some : old.next ≢ [] → new.next ≢ []
  pub fewer : length new.next ≤ length old.next

-- the same of the entry at a place, where there is one
abbrev pub SettlesAt : ℕ → List Entry → List Entry → Type 0
SettlesAt place old new =
    (new ≡ old) ⊎ ((entry : Entry) × (staged : Staged) × (slice_get old place ≡ Some entry) × SettlesRun entry.1 staged × (new ≡ set_value_at old place staged) × KeysApart old)

-- the key of a point
abbrev pub point_key : Point → List ℕ
point_key point = key_of point.cell.series point.cell.field

-- the place is found for the point at this place of a batch, and touched
abbrev pub IsFoundOf : List Entry → Staging → List Point → ℕ → ℕ → Type 0
IsFoundOf old new points i place = (point : Point) → slice_get points i ≡ Some point → FindsKey (point_key point) place old new.entries × Among new.touched place

-- the place is that of the point at this place of a batch, and touched
abbrev pub IsPlaceOf : Staging → List Point → ℕ → ℕ → Type 0
IsPlaceOf staging points i place = (point : Point) → slice_get points i ≡ Some point → HasKey staging.entries place (point_key point) × Among staging.touched place

-- it is that of the point before
abbrev pub IsPlaceBefore : Staging → List Point → ℕ → ℕ → Type 0
IsPlaceBefore staging points i place = (k : ℕ) → k + 1 ≡ i → IsPlaceOf staging points k place

-- the point is of the key of the one before it
abbrev pub GoesOn : List Point → ℕ → Type 0
GoesOn points i = (k : ℕ) × (k + 1 ≡ i) × ((one other : Point) → slice_get points k ≡ Some one → slice_get points i ≡ Some other → point_key one ≡ point_key other)
