-- Which moments has a clock in memory told?
use Rattle.std.specs.Prelude.{ℕ, ◌-◌, ◌^◌, nat_lt, min, ℤ, pos, List, ◌++◌, length, take, replicate, Option, Some, None, if◌then◌else◌}
use Rattle.std.specs.List.{slice_index_or}

-- the one at a place of the list, behind its end the last one, or 0 where there is none
abbrev pub moment_at : List ℤ → ℕ → ℤ
moment_at moments place = slice_index_or moments (min place (length moments - 1)) (pos 0)

-- the list in order, and behind it the last one again
abbrev pub told_moments : List ℤ → ℕ → List ℤ
told_moments moments calls = take calls moments ++ replicate (calls - length moments) (moment_at moments (length moments))

-- A clock counts its calls up to a last value. There it no longer knows how many they were, and stops telling.
abbrev pub moments_told : List ℤ → ℕ → Option (List ℤ)
moments_told moments calls = if nat_lt calls (2 ^ 64 - 1) then Some (told_moments moments calls) else None
