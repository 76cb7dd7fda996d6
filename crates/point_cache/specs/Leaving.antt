-- What changes where points and keys leave a table?
use Rattle.std.specs.Prelude.{◌≡◌, ◌≢◌, ℕ, ℤ, List, length, sum_by, slice_get, nat_eq, Some, if◌then◌else◌}
use Rattle.std.specs.List.{AllByRecursion}
use Rattle.std.specs.Cmp.Lexicographic.{pointwise}
use Rattle.point_model.specs.Rows.{Row}
use Rattle.point_cache.specs.declared.key_points.KeyRun.{KeyRun}
use Rattle.point_cache.specs.Cached.{AreAscending, KeysAscend, IsRun, points_at, rows_outside, count}
use Rattle.point_cache.specs.Staged.{Staged, Entry, staged_at, IsUnstaged, HavePoints}

-- the points from one time to another are taken away
abbrev pub cut_of : ℤ → ℤ → Staged → Staged
cut_of from to staged = record { live = rows_outside from to staged.live; next = rows_outside from to staged.live }

-- the points of a key without those from one time to another
abbrev pub points_without : List ℕ → ℤ → ℤ → List ℕ → List Row → List Row
points_without own from to key rows = if pointwise nat_eq key own then rows_outside from to rows else rows

-- the points of a key from one time to another are taken away
pub record RemovesKey (own : List ℕ) (from to : ℤ) (old new : List Entry) : Type 0 where
  pub points : (key : List ℕ) → (staged_at new key).live ≡ points_without own from to key (staged_at old key).live
  pub unstaged : IsUnstaged old → IsUnstaged new
  pub ascending : AllByRecursion (λ entry. AreAscending entry.1.live) old → AllByRecursion (λ entry. AreAscending entry.1.live) new
  pub some : HavePoints old → HavePoints new

-- an entry without points is taken out
pub record Drops (place : ℕ) (old new : List Entry) : Type 0 where
  pub points : (key : List ℕ) → (staged_at new key).live ≡ (staged_at old key).live
  pub from_old : (p : ℕ) (entry : Entry) → slice_get new p ≡ Some entry → (q : ℕ) × (q ≢ place) × (slice_get old q ≡ Some entry)
  pub counted : sum_by (λ entry. length entry.1.live) new ≡ sum_by (λ entry. length entry.1.live) old

-- runs in the order of their keys, each with its points
pub record IsFrozen (runs frozen : List KeyRun) : Type 0 where
  pub points : (key : List ℕ) → points_at frozen key ≡ points_at runs key
  pub ordered : KeysAscend frozen
  pub each : AllByRecursion IsRun runs → AllByRecursion IsRun frozen
  pub counted : count frozen ≡ count runs
