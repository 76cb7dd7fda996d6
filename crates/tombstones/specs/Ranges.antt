-- Which times a list of ranges covers.
use Rattle.std.specs.Prelude.{ℤ, pos, ◌+ℤ◌, ◌≤ℤ◌, ◌<ℤ◌, ◌⊎◌, List, [], ◌∷◌, ⊤}
use Rattle.std.specs.List.{AllByRecursion}
use Rattle.tombstones.specs.declared.range.TombRange.{TombRange}

-- the time lies in the range, both ends included; a range that ends before it begins has no time
abbrev pub Spans : TombRange → ℤ → Type 0
Spans range time = (range.from ≤ℤ time) × (time ≤ℤ range.to)

-- some range of the list has the time
abbrev pub Covers : List TombRange → ℤ → Type 0
Covers [] time = ⊥
Covers (range ∷ ranges) time = Spans range time ⊎ Covers ranges time

-- a time between the two is in neither: 1 to 3 and 4 to 6 are not apart
abbrev pub IsApart : TombRange → TombRange → Type 0
IsApart first second = (first.to +ℤ pos 1) <ℤ second.from

-- no range is empty, and each ends a free time before all that follow it
abbrev pub AreApart : List TombRange → Type 0
AreApart [] = ⊤
AreApart (range ∷ ranges) = (range.from ≤ℤ range.to) × AllByRecursion (IsApart range) ranges × AreApart ranges

-- the new ranges cover what the old ones and this one do, and nothing else
pub record CoversAlso (old : List TombRange) (range : TombRange) (new : List TombRange) : Type 0 where
  pub added : (time : ℤ) → Spans range time → Covers new time
  pub kept : (time : ℤ) → Covers old time → Covers new time
  pub no_other : (time : ℤ) → Covers new time → Covers old time ⊎ Spans range time
