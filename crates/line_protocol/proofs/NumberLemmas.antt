use Rattle.std.proofs.Common.{◌≡◌, ℕ, ◌+◌, ◌*◌, ◌-◌, ◌≤◌, Bool, true, false, ◌&&◌, List, [], ◌∷◌, ◌++◌, refl, ap, ◌∙◌, arith}
use Rattle.std.specs.Char.{is_ascii_digit}
use Rattle.std.specs.Str.{all_ascii_digits}
use Rattle.std.proofs.lemmas.Bool.{false≢true}
use Rattle.line_protocol.specs.Numbers.{read_on}

both-first : (a b : Bool) → (a && b) ≡ true → a ≡ true
both-first true b e = refl
both-first false b e = absurd (false≢true e)

both-second : (a b : Bool) → (a && b) ≡ true → b ≡ true
both-second true b e = e
both-second false b e = absurd (false≢true e)

-- digits make no number less
pub read_on-ge : (number : ℕ) (digits : List ℕ) → number ≤ read_on number digits
read_on-ge number [] = omega arith
read_on-ge number (digit ∷ digits) = omega (arith, read_on-ge (number * 10 + (digit - 48)) digits)

-- one more digit behind digits
pub all_digits_push : (digits : List ℕ) (digit : ℕ) → all_ascii_digits digits ≡ true → is_ascii_digit digit ≡ true → all_ascii_digits (digits ++ digit ∷ []) ≡ true
all_digits_push [] digit all one = ap (λ (t : Bool). t && true) one
all_digits_push (d ∷ digits) digit all one =
    ap (λ (t : Bool). is_ascii_digit d && t) (all_digits_push digits digit (both-second (is_ascii_digit d) (all_ascii_digits digits) all) one)
    ∙ ap (λ (t : Bool). t && true) (both-first (is_ascii_digit d) (all_ascii_digits digits) all)
