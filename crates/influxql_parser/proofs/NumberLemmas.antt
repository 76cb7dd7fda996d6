use Rattle.std.proofs.Common.{◌≡◌, ℕ, zero, suc, ◌+◌, ◌*◌, ◌-◌, ◌<◌, ◌≤◌, ◌^◌, Bool, true, false, cond, eqb, Option, Some, None, List, [], ◌∷◌, length, refl, sym, ap, ◌∙◌, arith}
use Rattle.std.proofs.lemmas.Bool.{le-ltb, lt-ltb}
use Rattle.std.specs.Prelude.{option_and_then}
use Rattle.std.specs.Char.{is_ascii_digit}
use Rattle.std.specs.Option.{option_map_or, SomeIff}
use Rattle.influxql_parser.specs.Numbers.{front_passing, behind_passing, decimal_from, in_64_bits, unit_at, part_at, parts_at}
use Rattle.influxql_parser.specs.Parts.{IsPart, IsDuration}

-- digits make no number less
pub decimal_from-ge : (number : ℕ) (digits : List ℕ) → number ≤ decimal_from number digits
decimal_from-ge number [] = omega arith
decimal_from-ge number (digit ∷ digits) = omega (arith, decimal_from-ge (number * 10 + (digit - 48)) digits)

-- Whatever the nanoseconds are with which a text was begun: those so far and what is left of it come to the same parts.
pub record PartsLeft (nanoseconds : Option ℕ) (text : List ℕ) (total : Option ℕ) (left : List ℕ) : Type 0 where
  pub comes : (whole more : ℕ) → nanoseconds ≡ in_64_bits whole → length text ≤ more →
      (so_far : ℕ) × (few : ℕ) × (length left ≤ few) × (total ≡ in_64_bits so_far) × (parts_at few so_far left ≡ parts_at more whole text)

pub parts-begin : (nanoseconds : Option ℕ) (text : List ℕ) → PartsLeft nanoseconds text nanoseconds text
parts-begin nanoseconds text = record { comes = λ whole more fits enough. (whole, more, enough, fits, refl) }

-- behind one part more
pub parts-next : (nanoseconds : Option ℕ) (text : List ℕ) (total part next : Option ℕ) (left behind : List ℕ) →
    PartsLeft nanoseconds text total left → IsPart left part behind → length behind < length left →
    ((m n : ℕ) → total ≡ in_64_bits m → part ≡ in_64_bits n → next ≡ in_64_bits (m + n)) → PartsLeft nanoseconds text next behind
parts-next nanoseconds text total part next left behind before at shorter added = record {
  comes = λ whole more fits enough. go whole more (before.comes whole more fits enough);
}
  where
    stepped : (few so_far : ℕ) → length left ≤ suc few → parts_at (suc few) so_far left ≡ parts_at few (so_far + at.whole) behind
    stepped few so_far room = ap (λ (o : Option (ℕ × List ℕ)). option_map_or (λ (p : ℕ × List ℕ). parts_at few (so_far + p.0) p.1) o (so_far, left)) at.part

    fewer : (whole more so_far few : ℕ) → length left ≤ few → total ≡ in_64_bits so_far → parts_at few so_far left ≡ parts_at more whole text →
        (so_far : ℕ) × (few : ℕ) × (length behind ≤ few) × (next ≡ in_64_bits so_far) × (parts_at few so_far behind ≡ parts_at more whole text)
    fewer whole more so_far zero room fit same = absurd (omega (arith, room, shorter))
    fewer whole more so_far (suc few) room fit same =
        (so_far + at.whole, few, omega (arith, room, shorter), added so_far at.whole fit at.fits, sym (stepped few so_far room) ∙ same)

    go : (whole more : ℕ) → (so_far : ℕ) × (few : ℕ) × (length left ≤ few) × (total ≡ in_64_bits so_far) × (parts_at few so_far left ≡ parts_at more whole text) →
        (so_far : ℕ) × (few : ℕ) × (length behind ≤ few) × (next ≡ in_64_bits so_far) × (parts_at few so_far behind ≡ parts_at more whole text)
    go whole more (so_far, few, room, fit, same) = fewer whole more so_far few room fit same

-- where no part follows, all of them are read
pub parts-end : (nanoseconds : Option ℕ) (text : List ℕ) (total : Option ℕ) (left : List ℕ) → PartsLeft nanoseconds text total left → part_at left ≡ None →
    (whole more : ℕ) → nanoseconds ≡ in_64_bits whole → length text ≤ more → (total ≡ in_64_bits (parts_at more whole text).0) × (left ≡ (parts_at more whole text).1)
parts-end nanoseconds text total left before none whole more fits enough = go (before.comes whole more fits enough)
  where
    stopped : (few so_far : ℕ) → parts_at few so_far left ≡ (so_far, left)
    stopped zero so_far = refl
    stopped (suc few) so_far = ap (λ (o : Option (ℕ × List ℕ)). option_map_or (λ (p : ℕ × List ℕ). parts_at few (so_far + p.0) p.1) o (so_far, left)) none

    go : (so_far : ℕ) × (few : ℕ) × (length left ≤ few) × (total ≡ in_64_bits so_far) × (parts_at few so_far left ≡ parts_at more whole text) →
        (total ≡ in_64_bits (parts_at more whole text).0) × (left ≡ (parts_at more whole text).1)
    go (so_far, few, room, fit, same) =
        let is : (so_far, left) ≡ parts_at more whole text = sym (stopped few so_far) ∙ same in
        (fit ∙ ap (λ (p : ℕ × List ℕ). in_64_bits p.0) is, ap (λ (p : ℕ × List ℕ). p.1) is)

-- a number that was counted as far as 64 bits hold it
pub counted-in : (found : Option ℕ) (number : ℕ) → SomeIff found (number < 2 ^ 64) number → found ≡ in_64_bits number
counted-in None number above = sym (ap (λ (b : Bool). cond b (Some number) None) (le-ltb number (2 ^ 64) (omega (arith, above))))
counted-in (Some found) number (below, same) =
    ap (λ (n : ℕ). Some n) same ∙ sym (ap (λ (b : Bool). cond b (Some number) None) (lt-ltb number (2 ^ 64) below))

pub behind-shorter : (passes : ℕ → Bool) (text : List ℕ) → length (behind_passing passes text) ≤ length text
behind-shorter passes [] = omega arith
behind-shorter passes (byte ∷ text) = by (passes byte) (behind-shorter passes text)
  where
    by : (b : Bool) → length (behind_passing passes text) ≤ length text → length (cond b (behind_passing passes text) (byte ∷ text)) ≤ length (byte ∷ text)
    by true short = omega (arith, short)
    by false short = omega arith

-- digits and a unit make a part
pub part-is : (text digits behind : List ℕ) (unit : ℕ) (nanoseconds : Option ℕ) (rest : List ℕ) →
    digits ≡ front_passing is_ascii_digit text → behind ≡ behind_passing is_ascii_digit text → eqb (length digits) 0 ≡ false → unit_at behind ≡ Some (unit, rest) →
    nanoseconds ≡ in_64_bits (decimal_from 0 digits * unit) → IsPart text nanoseconds rest
part-is text digits behind unit nanoseconds rest front left some at fits = record {
  whole = decimal_from 0 digits * unit;
  part =
      ap (λ (ds : List ℕ). cond (eqb (length ds) 0) None (option_and_then (λ (u : ℕ × List ℕ). Some (decimal_from 0 ds * u.0, u.1)) (unit_at (behind_passing is_ascii_digit text)))) (sym front)
      ∙ ap (λ (b : Bool). cond b None (option_and_then (λ (u : ℕ × List ℕ). Some (decimal_from 0 digits * u.0, u.1)) (unit_at (behind_passing is_ascii_digit text)))) some
      ∙ ap (λ (t : List ℕ). option_and_then (λ (u : ℕ × List ℕ). Some (decimal_from 0 digits * u.0, u.1)) (unit_at t)) (sym left)
      ∙ ap (λ (o : Option (ℕ × List ℕ)). option_and_then (λ (u : ℕ × List ℕ). Some (decimal_from 0 digits * u.0, u.1)) o) at;
  fits = fits;
}

-- a part and those behind it make a duration
pub duration-is : (text : List ℕ) (nanoseconds : Option ℕ) (behind : List ℕ) (result : Option ℕ) (rest : List ℕ) → IsPart text nanoseconds behind → length behind < length text →
    ((whole more : ℕ) → nanoseconds ≡ in_64_bits whole → length behind ≤ more → (result ≡ in_64_bits (parts_at more whole behind).0) × (rest ≡ (parts_at more whole behind).1)) →
    IsDuration text result rest
duration-is text nanoseconds behind result rest at shorter all = go (length text) refl
  where
    go : (n : ℕ) → length text ≡ n → IsDuration text result rest
    go zero none = absurd (omega (arith, none, shorter))
    go (suc n) some =
        let whole = 0 + at.whole in
        let stepped : parts_at (suc n) 0 text ≡ parts_at n whole behind = ap (λ (o : Option (ℕ × List ℕ)). option_map_or (λ (p : ℕ × List ℕ). parts_at n (0 + p.0) p.1) o (0, text)) at.part in
        let is : parts_at (length text) 0 text ≡ parts_at n whole behind = ap (λ (k : ℕ). parts_at k 0 text) some ∙ stepped in
        let same : at.whole ≡ 0 + at.whole = omega arith in
        let both = all whole n (at.fits ∙ ap (λ (k : ℕ). in_64_bits k) same) (omega (arith, some, shorter)) in
        record {
          first = (at.whole, behind);
          part = at.part;
          fits = both.0 ∙ ap (λ (p : ℕ × List ℕ). in_64_bits p.0) (sym is);
          behind_is = both.1 ∙ ap (λ (p : ℕ × List ℕ). p.1) (sym is);
        }
