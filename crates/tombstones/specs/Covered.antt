-- What tombstones hide.
use Rattle.std.specs.Prelude.{◌≡◌, ℕ, ℤ, ◌≤ℤ◌, int_le, nat_eq, Bool, false, ◌&&◌, ◌||◌, ◌⊎◌, ◌↔◌, List, [], ◌∷◌, ⊤}
use Rattle.std.specs.List.{AllByRecursion}
use Rattle.std.specs.Ordering.{nat_cmp}
use Rattle.std.specs.declared.cmp.Ordering.TheVariants.{Less}
use Rattle.std.specs.Cmp.Lexicographic.{pointwise, slice_cmp}
use Rattle.tsdb_types.specs.Moments.{IsMoment}
use Rattle.tombstones.specs.declared.range.TombRange.{TombRange}
use Rattle.tombstones.specs.Ranges.{Spans, IsApart}

-- a deleted range of times of a key
pub record Tomb : Type 0 where
  pub key : List ℕ
  pub range : TombRange

-- some tombstone of this key has the time: a read passes over the point of the key there
abbrev pub Hides : List Tomb → List ℕ → ℤ → Type 0
Hides [] key time = ⊥
Hides (tomb ∷ tombs) key time = ((tomb.key ≡ key) × Spans tomb.range time) ⊎ Hides tombs key time

-- the tombstone is of this key and has the time
abbrev pub is_hidden_by : Tomb → List ℕ → ℤ → Bool
is_hidden_by tomb key time = pointwise nat_eq tomb.key key && (int_le tomb.range.from time && int_le time tomb.range.to)

-- the same of all of them, as a test
abbrev pub hides : List Tomb → List ℕ → ℤ → Bool
hides [] key time = false
hides (tomb ∷ tombs) key time = is_hidden_by tomb key time || hides tombs key time

-- the two lists hide the same moments of each key
abbrev pub HideSame : List Tomb → List Tomb → Type 0
HideSame some others = (key : List ℕ) (time : ℤ) → IsMoment time → Hides some key time ↔ Hides others key time

-- the new tombstones hide what the old ones do and the range of the key, and nothing else
pub record HidesAlso (old : List Tomb) (key : List ℕ) (range : TombRange) (new : List Tomb) : Type 0 where
  pub added : (time : ℤ) → Spans range time → Hides new key time
  pub kept : (other : List ℕ) (time : ℤ) → Hides old other time → Hides new other time
  pub no_other : (other : List ℕ) (time : ℤ) → Hides new other time → Hides old other time ⊎ ((key ≡ other) × Spans range time)

-- the second is of a key that comes later in the order of bytes, or of the same key with a free time between the two
abbrev pub IsBehind : Tomb → Tomb → Type 0
IsBehind first second =
    (slice_cmp nat_cmp first.key second.key ≡ Less) ⊎ ((first.key ≡ second.key) × IsApart first.range second.range)

-- No range is empty, and each tombstone stands behind all before it: keys ascend, the ranges of a key ascend, and
-- no two of them could be one.
abbrev pub AreFewest : List Tomb → Type 0
AreFewest [] = ⊤
AreFewest (tomb ∷ tombs) = (tomb.range.from ≤ℤ tomb.range.to) × AllByRecursion (IsBehind tomb) tombs × AreFewest tombs
