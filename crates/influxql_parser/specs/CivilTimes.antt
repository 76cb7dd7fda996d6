-- Which texts are civil moments of UTC, and which nanoseconds since 1970 are they?
use Rattle.std.specs.Prelude.{ℕ, zero, suc, ◌+◌, ◌*◌, ◌-◌, Bool, not, ◌&&◌, ◌==◌, nat_le, ℤ, pos, ◌+ℤ◌, ◌*ℤ◌, Option, Some, None, List, [], ◌∷◌, length, option_and_then, if◌then◌else◌}
use Rattle.std.specs.Char.{is_ascii_digit}
use Rattle.jiff_core.specs.Calendar.{days_from_civil, days_in_month}
use Rattle.influxql_parser.specs.Numbers.{decimal_from, front_passing, behind_passing}

-- exactly so many digits at the front of a text: their number, read on from another, and what stands behind
abbrev pub digits_at : ℕ → ℕ → List ℕ → Option (ℕ × List ℕ)
digits_at zero number text = Some (number, text)
digits_at (suc more) number [] = None
digits_at (suc more) number (byte ∷ text) = if is_ascii_digit byte then digits_at more (number * 10 + (byte - 48)) text else None

-- what stands behind this byte at the front of a text
abbrev pub behind_byte : ℕ → List ℕ → Option (List ℕ)
behind_byte byte [] = None
behind_byte byte (first ∷ text) = if first == byte then Some text else None

-- so many digits behind this byte
abbrev pub digits_behind : ℕ → ℕ → List ℕ → Option (ℕ × List ℕ)
digits_behind byte count text = option_and_then (digits_at count 0) (behind_byte byte text)

-- the calendar has this day
abbrev pub is_civil_date : ℕ → ℕ → ℕ → Bool
is_civil_date year month day =
    (nat_le 1 month && nat_le month 12) && (nat_le 1 day && nat_le day (days_in_month (pos year) month))

-- `YYYY-MM-DD` at the front of a text, as the number of the day since 1970, and what stands behind
abbrev pub day_at : List ℕ → Option (ℤ × List ℕ)
day_at text =
    option_and_then (λ year. option_and_then (λ month. option_and_then (λ day.
    if is_civil_date year.0 month.0 day.0 then Some (days_from_civil (pos year.0) month.0 day.0, day.1) else None)
    (digits_behind 45 2 month.1)) (digits_behind 45 2 year.1)) (digits_at 4 0 text)

-- the nanoseconds of so many digits behind the point of a second
abbrev pub scaled : ℕ → ℕ → ℕ
scaled zero number = number * 1000000000
scaled (suc zero) number = number * 100000000
scaled (suc (suc zero)) number = number * 10000000
scaled (suc (suc (suc zero))) number = number * 1000000
scaled (suc (suc (suc (suc zero)))) number = number * 100000
scaled (suc (suc (suc (suc (suc zero))))) number = number * 10000
scaled (suc (suc (suc (suc (suc (suc zero)))))) number = number * 1000
scaled (suc (suc (suc (suc (suc (suc (suc zero))))))) number = number * 100
scaled (suc (suc (suc (suc (suc (suc (suc (suc zero)))))))) number = number * 10
scaled (suc (suc (suc (suc (suc (suc (suc (suc (suc more))))))))) number = number

-- a point and 1 to 9 digits at the front of a text, as nanoseconds, and what stands behind; where no point stands there it is nothing
abbrev pub fraction_at : List ℕ → Option (ℕ × List ℕ)
fraction_at [] = Some (0, [])
fraction_at (byte ∷ text) =
    if not (byte == 46) then Some (0, byte ∷ text)
    else if nat_le 1 (length (front_passing is_ascii_digit text)) && nat_le (length (front_passing is_ascii_digit text)) 9
    then Some (scaled (length (front_passing is_ascii_digit text)) (decimal_from 0 (front_passing is_ascii_digit text)), behind_passing is_ascii_digit text)
    else None

-- `HH:MM:SS` and a fraction or none at the front of a text, as the nanoseconds of the day, and what stands behind
abbrev pub clock_at : List ℕ → Option (ℕ × List ℕ)
clock_at text =
    option_and_then (λ hour. option_and_then (λ minute. option_and_then (λ second. option_and_then (λ fraction.
    if nat_le hour.0 23 && (nat_le minute.0 59 && nat_le second.0 59)
    then Some (((hour.0 * 60 + minute.0) * 60 + second.0) * 1000000000 + fraction.0, fraction.1) else None)
    (fraction_at second.1)) (digits_behind 58 2 minute.1)) (digits_behind 58 2 hour.1)) (digits_at 2 0 text)

-- a time of day behind a day: nothing, or a blank and a clock, or `T`, a clock and `Z`, and nothing behind them
abbrev pub time_of_day : List ℕ → Option ℕ
time_of_day [] = Some 0
time_of_day (byte ∷ text) =
    if byte == 32 then option_and_then (λ clock. if length clock.1 == 0 then Some clock.0 else None) (clock_at text)
    else if byte == 84 then option_and_then (λ clock. option_and_then (λ behind. if length behind == 0 then Some clock.0 else None) (behind_byte 90 clock.1)) (clock_at text)
    else None

-- the nanoseconds since 1970 of a civil moment, whatever they are
abbrev pub civil_time : List ℕ → Option ℤ
civil_time text =
    option_and_then (λ day. option_and_then (λ clock. Some (day.0 *ℤ pos 86400000000000 +ℤ pos clock)) (time_of_day day.1)) (day_at text)
