-- How a number is spelled as a uvarint, and which bytes begin with no such spelling.
use Rattle.std.specs.Prelude.{◌≡◌, ℕ, zero, suc, ◌+◌, ◌/◌, ◌%◌, ◌^◌, ◌<◌, ◌≤◌, List, [], ◌∷◌, ◌++◌, length, All, nat_lt, if◌then◌else◌}

-- at most `more` bytes of seven bits with the high bit set, as long as 128 or more is left, and what is left
abbrev pub groups : ℕ → ℕ → List ℕ
groups zero number = number ∷ []
groups (suc more) number =
    if nat_lt number 128 then number ∷ [] else (128 + number % 128) ∷ groups more (number / 128)

-- seven bits a byte, the lowest first; all bytes but the last have the high bit. As many groups as the number
-- says are more than it has, so what is left is below 128.
unfoldable pub uvarint : ℕ → List ℕ
uvarint number = groups number number

-- the bytes end before a number does: each of them, if any, has the high bit, and they are fewer than ten
pub record IsShort (bytes : List ℕ) : Type 0 where
  pub room : length bytes < 10
  pub all_go_on : All (λ byte. 128 ≤ byte) bytes

-- a spelling ends within the bytes, or ten of them go on, but no number of 64 bits is spelled at their front
pub record IsLong (bytes : List ℕ) : Type 0 where
  pub not_short : ¬ IsShort bytes
  pub no_number : (number : ℕ) (rest : List ℕ) → number < 2 ^ 64 → ¬ (bytes ≡ uvarint number ++ rest)
