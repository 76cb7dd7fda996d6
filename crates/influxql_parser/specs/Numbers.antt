-- Which numbers and durations do digits and units spell?
use Rattle.std.specs.Prelude.{ℕ, zero, suc, ◌+◌, ◌*◌, ◌-◌, ◌^◌, Bool, ◌&&◌, ◌==◌, nat_lt, Option, Some, None, List, [], ◌∷◌, length, option_and_then, if◌then◌else◌}
use Rattle.std.specs.Option.{option_map_or}
use Rattle.std.specs.Char.{is_ascii_digit}

-- the bytes at the front of a text that pass a test, as many as there are
abbrev pub front_passing : (ℕ → Bool) → List ℕ → List ℕ
front_passing passes [] = []
front_passing passes (byte ∷ text) = if passes byte then byte ∷ front_passing passes text else []

-- what stands behind them
abbrev pub behind_passing : (ℕ → Bool) → List ℕ → List ℕ
behind_passing passes [] = []
behind_passing passes (byte ∷ text) = if passes byte then behind_passing passes text else byte ∷ text

-- the number of these digits, read on from another
abbrev pub decimal_from : ℕ → List ℕ → ℕ
decimal_from number [] = number
decimal_from number (digit ∷ digits) = decimal_from (number * 10 + (digit - 48)) digits

-- a number that 64 bits hold, and none for any other
abbrev pub in_64_bits : ℕ → Option ℕ
in_64_bits number = if nat_lt number (2 ^ 64) then Some number else None

-- what was found, with what stands behind it
abbrev pub with_rest : {A : Type 0} → List ℕ → Option A → Option (A × List ℕ)
with_rest rest None = None
with_rest rest (Some found) = Some (found, rest)

-- What two bytes spell, where they spell something, else what the first one spells; and what stands behind.
abbrev pub longest : {A : Type 0} → (ℕ → ℕ → Option A) → (ℕ → Option A) → List ℕ → Option (A × List ℕ)
longest two one [] = None
longest two one (a ∷ []) = with_rest [] (one a)
longest two one (a ∷ b ∷ text) = option_map_or (λ found. Some (found, text)) (two a b) (with_rest (b ∷ text) (one a))

-- the nanoseconds of `ns`, `µ` (U+00B5) and `ms`
abbrev pub unit_of_two : ℕ → ℕ → Option ℕ
unit_of_two a b =
    if (a == 110) && (b == 115) then Some 1
    else if (a == 194) && (b == 181) then Some 1000
    else if (a == 109) && (b == 115) then Some 1000000 else None

-- the nanoseconds of `u`, `s`, `m`, `h`, `d` and `w`
abbrev pub unit_of_one : ℕ → Option ℕ
unit_of_one a =
    if a == 117 then Some 1000
    else if a == 115 then Some 1000000000
    else if a == 109 then Some 60000000000
    else if a == 104 then Some 3600000000000
    else if a == 100 then Some 86400000000000
    else if a == 119 then Some 604800000000000 else None

-- the nanoseconds of the longest unit at the front of a text, and what stands behind it
abbrev pub unit_at : List ℕ → Option (ℕ × List ℕ)
unit_at text = longest unit_of_two unit_of_one text

-- The nanoseconds of digits and a unit at the front of a text, with the longest unit, and what stands behind.
abbrev pub part_at : List ℕ → Option (ℕ × List ℕ)
part_at text =
    if length (front_passing is_ascii_digit text) == 0 then None
    else option_and_then (λ unit. Some (decimal_from 0 (front_passing is_ascii_digit text) * unit.0, unit.1)) (unit_at (behind_passing is_ascii_digit text))

-- Some nanoseconds with all parts that follow at once, at most so many, and what stands behind.
abbrev pub parts_at : ℕ → ℕ → List ℕ → ℕ × List ℕ
parts_at zero total text = (total, text)
parts_at (suc more) total text = option_map_or (λ part. parts_at more (total + part.0) part.1) (part_at text) (total, text)
