-- What do tombstones hide, as a test?
use Rattle.std.specs.Prelude.{◌≡◌, ◌↔◌, ℕ, ℤ, true, ◌||◌, List}
use Rattle.tsdb_types.specs.Moments.{IsMoment}
use Rattle.tombstones.specs.declared.range.TombRange.{TombRange}
use Rattle.tombstones.specs.Covered.{Tomb, Hides, HideSame, HidesAlso, hides, is_hidden_by}

-- The test holds exactly where the points are hidden. Where a range of a key is hidden besides, it holds there and where it
-- held before; and of lists that hide the same it answers alike at each moment.
pub record HidingIsTested : Type 0 where
  pub exact : (tombs : List Tomb) (key : List ℕ) (time : ℤ) → Hides tombs key time ↔ (hides tombs key time ≡ true)
  pub also : (old new : List Tomb) (key : List ℕ) (range : TombRange) → HidesAlso old key range new
      → (other : List ℕ) (time : ℤ) → hides new other time ≡ hides old other time || is_hidden_by (record { key = key; range = range }) other time
  pub same : (some others : List Tomb) → HideSame some others → (key : List ℕ) (time : ℤ) → IsMoment time → hides some key time ≡ hides others key time
