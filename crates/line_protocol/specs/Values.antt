-- Which value a text is, and why it is none.
use Rattle.std.specs.Prelude.{ℕ, ◌^◌, Bool, true, false, not, ◌&&◌, ◌||◌, ◌==◌, nat_lt, Option, Some, None, Result, Ok, Err, List, [], ◌∷◌, length, if◌then◌else◌}
use Rattle.std.specs.Str.{bytes_eq}
use Rattle.std.specs.List.{list_any}
use Rattle.tsdb_types.specs.declared.value.Value.{Value}
use Rattle.tsdb_types.specs.declared.value.Value.TheVariants.{Int, Uint, Bool as Truth}
use Rattle.line_protocol.specs.declared.fault.LineCode.{LineCode}
use Rattle.line_protocol.specs.declared.fault.LineCode.TheVariants.{BadField, FloatValue, StringValue, NumberRange}
use Rattle.line_protocol.specs.Numbers.{is_digits, is_negative, unsigned, digits_front, digits_behind, number_of, signed_of, is_int}

-- `t`, `T`, `true`, `True` and `TRUE`; `f`, `F`, `false`, `False` and `FALSE`
abbrev pub words : Bool → List (List ℕ)
words true = (116 ∷ []) ∷ (84 ∷ []) ∷ (116 ∷ 114 ∷ 117 ∷ 101 ∷ []) ∷ (84 ∷ 114 ∷ 117 ∷ 101 ∷ []) ∷ (84 ∷ 82 ∷ 85 ∷ 69 ∷ []) ∷ []
words false = (102 ∷ []) ∷ (70 ∷ []) ∷ (102 ∷ 97 ∷ 108 ∷ 115 ∷ 101 ∷ []) ∷ (70 ∷ 97 ∷ 108 ∷ 115 ∷ 101 ∷ []) ∷ (70 ∷ 65 ∷ 76 ∷ 83 ∷ 69 ∷ []) ∷ []

-- the text is one of the words of this Boolean
abbrev pub is_word : List ℕ → Bool → Bool
is_word text truth = list_any (bytes_eq text) (words truth)

-- the Boolean that a word stands for
abbrev pub truth_of : List ℕ → Option Bool
truth_of text = if is_word text true then Some true else if is_word text false then Some false else None

-- the text is this one byte
abbrev pub is_byte : ℕ → List ℕ → Bool
is_byte byte [] = false
is_byte byte (first ∷ text) = (first == byte) && (length text == 0)

-- the text begins with a double quote
abbrev pub is_quoted : List ℕ → Bool
is_quoted [] = false
is_quoted (byte ∷ text) = byte == 34

-- what stands behind a plus or a minus; the whole text where it begins with neither
abbrev pub without_sign : List ℕ → List ℕ
without_sign [] = []
without_sign (byte ∷ text) = if (byte == 43) || (byte == 45) then text else byte ∷ text

-- nothing, or an `e` or `E`, a sign or none, and digits
abbrev pub is_exponent : List ℕ → Bool
is_exponent [] = true
is_exponent (byte ∷ text) = ((byte == 101) || (byte == 69)) && is_digits (without_sign text)

-- what stands behind the point of a float: further digits or none, and an exponent; no digits on either side are no float
abbrev pub is_fraction : Bool → List ℕ → Bool
is_fraction some text = (some || not (length (digits_front text) == 0)) && is_exponent (digits_behind text)

-- what stands behind the first digits of a float, if there are some: a point and a fraction, or an exponent
abbrev pub is_float : Bool → List ℕ → Bool
is_float some [] = some
is_float some (byte ∷ text) = if byte == 46 then is_fraction some text else some && is_exponent (byte ∷ text)

-- the integer of these digits, where 64 bits hold it
abbrev pub int_value : Bool → List ℕ → Result Value LineCode
int_value negative digits = if is_int negative (number_of digits) then Ok (Int (signed_of negative (number_of digits))) else Err NumberRange

-- the unsigned number of these digits, where 64 bits hold it
abbrev pub uint_value : List ℕ → Result Value LineCode
uint_value digits = if nat_lt (number_of digits) (2 ^ 64) then Ok (Uint (number_of digits)) else Err NumberRange

-- a sign, digits and what stands behind them: an `i` is an integer, a `u` without a minus an unsigned number, and neither is one without digits
abbrev pub number_value : Bool → List ℕ → List ℕ → Result Value LineCode
number_value negative digits behind =
    if is_byte 105 behind && not (length digits == 0) then int_value negative digits
    else if is_byte 117 behind && (not negative && not (length digits == 0)) then uint_value digits
    else if is_float (not (length digits == 0)) behind then Err FloatValue else Err BadField

-- the text that is no word: a string, or a sign or none, the digits behind it, and what stands behind them
abbrev pub wordless_value : List ℕ → Result Value LineCode
wordless_value text =
    if is_quoted text then Err StringValue
    else number_value (is_negative text) (digits_front (unsigned text)) (digits_behind (unsigned text))

-- the value of a text; no text has two of these forms
abbrev pub value_of : List ℕ → Result Value LineCode
value_of text = if is_word text true then Ok (Truth true) else if is_word text false then Ok (Truth false) else wordless_value text
