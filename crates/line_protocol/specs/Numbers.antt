-- Which texts are numbers, and which numbers they are.
use Rattle.std.specs.Prelude.{ℕ, ◌+◌, ◌*◌, ◌-◌, Bool, false, not, ◌&&◌, ◌==◌, nat_le, nat_lt, List, [], ◌∷◌, length, ℤ, pos, neg_ℤ, if◌then◌else◌}
use Rattle.std.specs.Char.{is_ascii_digit}
use Rattle.std.specs.Str.{all_ascii_digits}

-- one or more digits, zeros in front allowed
abbrev pub is_digits : List ℕ → Bool
is_digits text = not (length text == 0) && all_ascii_digits text

-- the text begins with a minus
abbrev pub is_negative : List ℕ → Bool
is_negative [] = false
is_negative (byte ∷ text) = byte == 45

-- what stands behind a minus; the whole text where it begins with none
abbrev pub unsigned : List ℕ → List ℕ
unsigned [] = []
unsigned (byte ∷ text) = if byte == 45 then text else byte ∷ text

-- the digits that a text begins with, as many as there are
abbrev pub digits_front : List ℕ → List ℕ
digits_front [] = []
digits_front (byte ∷ text) = if is_ascii_digit byte then byte ∷ digits_front text else []

-- what stands behind those digits
abbrev pub digits_behind : List ℕ → List ℕ
digits_behind [] = []
digits_behind (byte ∷ text) = if is_ascii_digit byte then digits_behind text else byte ∷ text

-- the number that digits read on from another
abbrev pub read_on : ℕ → List ℕ → ℕ
read_on number [] = number
read_on number (digit ∷ digits) = read_on (number * 10 + (digit - 48)) digits

-- the number of these digits
abbrev pub number_of : List ℕ → ℕ
number_of digits = read_on 0 digits

-- the number with a minus or without
abbrev pub signed_of : Bool → ℕ → ℤ
signed_of negative number = if negative then neg_ℤ (pos number) else pos number

-- 64 bits with a sign hold the number with a minus or without
abbrev pub is_int : Bool → ℕ → Bool
is_int negative number = if negative then nat_le number 9223372036854775808 else nat_lt number 9223372036854775808

-- the number, with a minus or without, is a moment: not one of the two least or the greatest of 64 bits
abbrev pub is_moment : ℕ → Bool
is_moment number = nat_le number 9223372036854775806
