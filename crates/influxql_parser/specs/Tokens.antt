-- Into which tokens is a text cut? Each is as long as it can be.
use Rattle.std.specs.Prelude.{◌≡◌, ℕ, Bool, false, not, ◌&&◌, ◌||◌, ◌==◌, Option, Some, None, List, [], ◌∷◌, length, option_and_then, if◌then◌else◌}
use Rattle.std.specs.Char.{is_ascii_digit, is_ascii_alphabetic}
use Rattle.influxql_parser.specs.declared.token.Symbol.{Symbol}
use Rattle.influxql_parser.specs.declared.token.Symbol.TheVariants as symbol
use Rattle.influxql_parser.specs.Numbers.{front_passing, behind_passing, decimal_from, in_64_bits, longest, part_at, parts_at}

-- A word; what stands between double and between single quotes, with its escapes; a number of digits and the nanoseconds of a duration,
-- none from 2^64 on; a symbol.
pub data Token : Type 0 where
  Word : List ℕ → Token
  Quoted : List ℕ → Token
  Text : List ℕ → Token
  Number : Option ℕ → Token
  Duration : Option ℕ → Token
  Sign : Symbol → Token

-- a space or a tab
abbrev pub is_blank : ℕ → Bool
is_blank byte = (byte == 32) || (byte == 9)

-- what a word begins with: a letter of ASCII or an underscore
abbrev pub begins_word : ℕ → Bool
begins_word byte = is_ascii_alphabetic byte || (byte == 95)

-- what a word is made of: these and digits
abbrev pub is_of_word : ℕ → Bool
is_of_word byte = begins_word byte || is_ascii_digit byte

-- `!=`, `<>`, `<=` and `>=`
abbrev pub symbol_of_two : ℕ → ℕ → Option Symbol
symbol_of_two a b =
    if (a == 33) && (b == 61) then Some symbol.NotEqual
    else if (a == 60) && (b == 62) then Some symbol.NotEqual
    else if (a == 60) && (b == 61) then Some symbol.LessEqual
    else if (a == 62) && (b == 61) then Some symbol.GreaterEqual else None

-- `(`, `)`, `,`, `;`, `=`, `<`, `>`, `+`, `-` and `*`
abbrev pub symbol_of_one : ℕ → Option Symbol
symbol_of_one a =
    if a == 40 then Some symbol.Open
    else if a == 41 then Some symbol.Close
    else if a == 44 then Some symbol.Comma
    else if a == 59 then Some symbol.Semicolon
    else if a == 61 then Some symbol.Equal
    else if a == 60 then Some symbol.Less
    else if a == 62 then Some symbol.Greater
    else if a == 43 then Some symbol.Plus
    else if a == 45 then Some symbol.Minus
    else if a == 42 then Some symbol.Star else None

-- the longest symbol at the front of a text, and what stands behind it
abbrev pub symbol_at : List ℕ → Option (Symbol × List ℕ)
symbol_at text = longest symbol_of_two symbol_of_one text

-- what stands before the next of these quotes that no backslash escapes; whether one escapes the first byte is told
abbrev pub before_quote : ℕ → Bool → List ℕ → List ℕ
before_quote quote escaped [] = []
before_quote quote escaped (byte ∷ text) =
    if (byte == quote) && not escaped then [] else byte ∷ before_quote quote ((byte == 92) && not escaped) text

-- what stands from that quote on, and nothing where there is none
abbrev pub from_quote : ℕ → Bool → List ℕ → List ℕ
from_quote quote escaped [] = []
from_quote quote escaped (byte ∷ text) =
    if (byte == quote) && not escaped then byte ∷ text else from_quote quote ((byte == 92) && not escaped) text

-- what stands between an opening quote and the closing one, and what stands behind that; none where it isn't closed
abbrev pub in_quotes : ℕ → List ℕ → Option (List ℕ × List ℕ)
in_quotes quote text = by (from_quote quote false text)
  where
    by : List ℕ → Option (List ℕ × List ℕ)
    by [] = None
    by (byte ∷ behind) = Some (before_quote quote false text, behind)

-- the number or the duration that digits at the front of a text begin
abbrev pub number_at : List ℕ → Token × List ℕ
number_at text = by (part_at text)
  where
    by : Option (ℕ × List ℕ) → Token × List ℕ
    by None = (Number (in_64_bits (decimal_from 0 (front_passing is_ascii_digit text))), behind_passing is_ascii_digit text)
    by (Some part) = (Duration (in_64_bits (parts_at (length text) 0 text).0), (parts_at (length text) 0 text).1)

-- the token at the front of a text, and what stands behind
abbrev pub token_at : List ℕ → Option (Token × List ℕ)
token_at [] = None
token_at (byte ∷ text) =
    if begins_word byte then Some (Word (front_passing is_of_word (byte ∷ text)), behind_passing is_of_word (byte ∷ text))
    else if is_ascii_digit byte then Some (number_at (byte ∷ text))
    else if byte == 34 then option_and_then (λ found. Some (Quoted found.0, found.1)) (in_quotes 34 text)
    else if byte == 39 then option_and_then (λ found. Some (Text found.0, found.1)) (in_quotes 39 text)
    else option_and_then (λ found. Some (Sign found.0, found.1)) (symbol_at (byte ∷ text))

-- the text is made of these tokens, with any blanks around them
abbrev pub AreTokens : List Token → List ℕ → Type 0
AreTokens [] text = behind_passing is_blank text ≡ []
AreTokens (token ∷ tokens) text = (behind : List ℕ) × (token_at (behind_passing is_blank text) ≡ Some (token, behind)) × AreTokens tokens behind
