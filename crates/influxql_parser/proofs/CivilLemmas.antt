use Rattle.std.proofs.Common.{◌≡◌, ℕ, zero, suc, ◌+◌, ◌*◌, ◌-◌, ◌^◌, ◌<◌, ◌≤◌, Bool, true, false, cond, ◌&&◌, Option, Some, None, List, [], ◌∷◌, length, ℤ, pos, unsigned_abs, subst, arith, refl, sym, ap, ◌∙◌}
use Rattle.std.specs.Prelude.{option_and_then, nat_le}
use Rattle.std.specs.Char.{is_ascii_digit}
use Rattle.std.proofs.Math.Nat.{pow-succ'}
use Rattle.std.specs.Int.{IsInRange}
use Rattle.std.proofs.lemmas.Bool.{false≢true, le-leb}
use Rattle.jiff_core.specs.Calendar.{days_from_civil, days_in_month}
use Rattle.influxql_parser.specs.Numbers.{front_passing, behind_passing, decimal_from}
use Rattle.influxql_parser.specs.CivilTimes.{clock_at, digits_at, digits_behind, fraction_at, is_civil_date}

abbrev at-front : ℕ → List ℕ → Option (ℕ × List ℕ)
at-front n rest = Some (n, rest)

-- what a clock reads behind its parts
abbrev with-fraction : ℕ → ℕ → ℕ → Option (ℕ × List ℕ) → Option (ℕ × List ℕ)
with-fraction hour minute second o =
    option_and_then (λ (fraction : ℕ × List ℕ).
    cond (nat_le hour 23 && (nat_le minute 59 && nat_le second 59)) (at-front (((hour * 60 + minute) * 60 + second) * 1000000000 + fraction.0) fraction.1) None) o

abbrev with-second : ℕ → ℕ → Option (ℕ × List ℕ) → Option (ℕ × List ℕ)
with-second hour minute o = option_and_then (λ (second : ℕ × List ℕ). with-fraction hour minute second.0 (fraction_at second.1)) o

abbrev with-minute : ℕ → Option (ℕ × List ℕ) → Option (ℕ × List ℕ)
with-minute hour o = option_and_then (λ (minute : ℕ × List ℕ). with-second hour minute.0 (digits_behind 58 2 minute.1)) o

abbrev with-hour : Option (ℕ × List ℕ) → Option (ℕ × List ℕ)
with-hour o = option_and_then (λ (hour : ℕ × List ℕ). with-minute hour.0 (digits_behind 58 2 hour.1)) o

pub at-hour : (text : List ℕ) (o : Option (ℕ × List ℕ)) → digits_at 2 0 text ≡ o → clock_at text ≡ with-hour o
at-hour text o e = ap with-hour e

pub at-minute : (text : List ℕ) (hour : ℕ × List ℕ) (o : Option (ℕ × List ℕ)) → digits_at 2 0 text ≡ Some hour → digits_behind 58 2 hour.1 ≡ o →
    clock_at text ≡ with-minute hour.0 o
at-minute text hour o e f = at-hour text (Some hour) e ∙ ap (with-minute hour.0) f

pub at-second : (text : List ℕ) (hour minute : ℕ × List ℕ) (o : Option (ℕ × List ℕ)) → digits_at 2 0 text ≡ Some hour → digits_behind 58 2 hour.1 ≡ Some minute →
    digits_behind 58 2 minute.1 ≡ o → clock_at text ≡ with-second hour.0 minute.0 o
at-second text hour minute o e f g = at-minute text hour (Some minute) e f ∙ ap (with-second hour.0 minute.0) g

pub at-fraction : (text : List ℕ) (hour minute second : ℕ × List ℕ) (o : Option (ℕ × List ℕ)) → digits_at 2 0 text ≡ Some hour → digits_behind 58 2 hour.1 ≡ Some minute →
    digits_behind 58 2 minute.1 ≡ Some second → fraction_at second.1 ≡ o → clock_at text ≡ with-fraction hour.0 minute.0 second.0 o
at-fraction text hour minute second o e f g h = at-second text hour minute (Some second) e f g ∙ ap (with-fraction hour.0 minute.0 second.0) h

-- the clock as a function of its parts
abbrev clock-of : ℕ → ℕ → ℕ → ℕ → Option ℕ
clock-of hour minute second fraction =
    cond (nat_le hour 23 && (nat_le minute 59 && nat_le second 59)) (Some (((hour * 60 + minute) * 60 + second) * 1000000000 + fraction)) None

with-clock : (rest : List ℕ) (b : Bool) (n : ℕ) (o : Option ℕ) → o ≡ cond b (Some n) None → cond b (at-front n rest) None ≡ option_and_then (λ (clock : ℕ). at-front clock rest) o
with-clock rest true n o e = ap (λ (x : Option ℕ). option_and_then (λ (clock : ℕ). at-front clock rest) x) (sym e)
with-clock rest false n o e = ap (λ (x : Option ℕ). option_and_then (λ (clock : ℕ). at-front clock rest) x) (sym e)

pub at-clock : (text : List ℕ) (hour minute second fraction : ℕ × List ℕ) (o : Option ℕ) → digits_at 2 0 text ≡ Some hour → digits_behind 58 2 hour.1 ≡ Some minute →
    digits_behind 58 2 minute.1 ≡ Some second → fraction_at second.1 ≡ Some fraction → o ≡ clock-of hour.0 minute.0 second.0 fraction.0 →
    clock_at text ≡ option_and_then (λ (clock : ℕ). at-front clock fraction.1) o
at-clock text hour minute second fraction o e f g h is =
    at-fraction text hour minute second (Some fraction) e f g h
    ∙ with-clock fraction.1 (nat_le hour.0 23 && (nat_le minute.0 59 && nat_le second.0 59)) (((hour.0 * 60 + minute.0) * 60 + second.0) * 1000000000 + fraction.0) o is

-- digits have no greater number than as many nines
times-ten : (number digit power : ℕ) → digit ≤ 9 → (number * 10 + digit + 1) * power ≤ (number + 1) * (10 * power)
times-ten number digit power small = grind (arith, small)

digit-small : (byte : ℕ) → is_ascii_digit byte ≡ true → byte - 48 ≤ 9
digit-small byte is = search (arith, is)

pub decimal-bound : (number : ℕ) (text : List ℕ) →
    decimal_from number (front_passing is_ascii_digit text) + 1 ≤ (number + 1) * 10 ^ length (front_passing is_ascii_digit text)
decimal-bound number [] = omega arith
decimal-bound number (byte ∷ text) = by (is_ascii_digit byte) refl (decimal-bound (number * 10 + (byte - 48)) text)
  where
    by : (b : Bool) → is_ascii_digit byte ≡ b →
        decimal_from (number * 10 + (byte - 48)) (front_passing is_ascii_digit text) + 1 ≤ (number * 10 + (byte - 48) + 1) * 10 ^ length (front_passing is_ascii_digit text) →
        decimal_from number (cond b (byte ∷ front_passing is_ascii_digit text) []) + 1 ≤ (number + 1) * 10 ^ length (cond b (byte ∷ front_passing is_ascii_digit text) [])
    by false is more = omega arith
    by true is more =
        let size = length (front_passing is_ascii_digit text) in
        let step = times-ten number (byte - 48) (10 ^ size) (digit-small byte is) in
        subst (λ (power : ℕ). decimal_from (number * 10 + (byte - 48)) (front_passing is_ascii_digit text) + 1 ≤ (number + 1) * power) (sym (pow-succ' 10 size)) (omega (arith, more, step))

few-nines : (n : ℕ) → n ≤ 9 → 10 ^ n ≤ 1000000000
few-nines zero few = omega arith
few-nines (suc zero) few = omega arith
few-nines (suc (suc zero)) few = omega arith
few-nines (suc (suc (suc zero))) few = omega arith
few-nines (suc (suc (suc (suc zero)))) few = omega arith
few-nines (suc (suc (suc (suc (suc zero))))) few = omega arith
few-nines (suc (suc (suc (suc (suc (suc zero)))))) few = omega arith
few-nines (suc (suc (suc (suc (suc (suc (suc zero))))))) few = omega arith
few-nines (suc (suc (suc (suc (suc (suc (suc (suc zero)))))))) few = omega arith
few-nines (suc (suc (suc (suc (suc (suc (suc (suc (suc zero))))))))) few = omega arith
few-nines (suc (suc (suc (suc (suc (suc (suc (suc (suc (suc more)))))))))) few = absurd (omega (arith, few))

-- nine digits are below a thousand million
pub few-below : (text digits : List ℕ) → digits ≡ front_passing is_ascii_digit text → length digits ≤ 9 → 1000000000 ≤ decimal_from 0 digits → ⊥
few-below text digits front few above =
    let sizes : length (front_passing is_ascii_digit text) ≡ length digits = ap (λ (t : List ℕ). length t) (sym front) in
    let small = few-nines (length (front_passing is_ascii_digit text)) (omega (arith, sizes, few)) in
    let same : decimal_from 0 digits ≡ decimal_from 0 (front_passing is_ascii_digit text) = ap (λ (t : List ℕ). decimal_from 0 t) front in
    omega (arith, decimal-bound 0 text, small, same, above)

both-true : (a b : Bool) → a ≡ true → b ≡ true → a && b ≡ true
both-true a b first second = ap (λ (x : Bool). x && b) first ∙ second

civil-date : (y m d : ℕ) → IsInRange 1 12 m → IsInRange 1 (days_in_month (pos y) m) d → is_civil_date y m d ≡ true
civil-date y m d month day =
    both-true (nat_le 1 m && nat_le m 12) (nat_le 1 d && nat_le d (days_in_month (pos y) m))
    (both-true (nat_le 1 m) (nat_le m 12) (le-leb 1 m month.0) (le-leb m 12 month.1))
    (both-true (nat_le 1 d) (nat_le d (days_in_month (pos y) m)) (le-leb 1 d day.0) (le-leb d (days_in_month (pos y) m) day.1))

-- a date of the calendar, by the numbers that it was made of
pub day-known : (year : ℤ) (month day y m d : ℕ) → IsInRange 1 12 month → IsInRange 1 (days_in_month year month) day → year ≡ pos y → pos month ≡ pos m → pos day ≡ pos d →
    (is_civil_date y m d ≡ true) × (days_from_civil year month day ≡ days_from_civil (pos y) m d)
day-known year month day y m d in_month in_day years months days =
    let m_is : month ≡ m = ap (λ (z : ℤ). unsigned_abs z) months in
    let d_is : day ≡ d = ap (λ (z : ℤ). unsigned_abs z) days in
    let in_year : IsInRange 1 (days_in_month (pos y) month) day = subst (λ (z : ℤ). IsInRange 1 (days_in_month z month) day) years in_day in
    let in_m : IsInRange 1 (days_in_month (pos y) m) day = subst (λ (k : ℕ). IsInRange 1 (days_in_month (pos y) k) day) m_is in_year in (
      civil-date y m d (subst (λ (k : ℕ). IsInRange 1 12 k) m_is in_month) (subst (λ (k : ℕ). IsInRange 1 (days_in_month (pos y) m) k) d_is in_m),
      ap (λ (z : ℤ). days_from_civil z month day) years ∙ ap (λ (k : ℕ). days_from_civil (pos y) k day) m_is ∙ ap (λ (k : ℕ). days_from_civil (pos y) m k) d_is,
    )
