-- Of which pieces is a condition made: comparisons, AND and OR, and parentheses?
use Rattle.std.specs.Prelude.{◌≡◌, ℕ, ℤ, pos, negsuc, neg_ℤ, ◌+ℤ◌, int_le, Bool, true, false, ◌&&◌, nat_le, Option, Some, None, List, [], ◌∷◌, option_and_then, if◌then◌else◌}
use Rattle.std.specs.Option.{option_map_or}
use Rattle.std.specs.Str.{str_eq_ignore_ascii_case}
use Rattle.point_model.specs.declared.part.Join.TheVariants as join
use Rattle.query_model.specs.declared.condition.Literal.{Literal}
use Rattle.query_model.specs.declared.condition.Literal.TheVariants as literal
use Rattle.query_model.specs.declared.condition.Op.{Op}
use Rattle.query_model.specs.declared.condition.Op.TheVariants.{Eq, Ne, Lt, Le, Gt, Ge}
use Rattle.influxql_parser.specs.declared.piece.Piece.{Piece}
use Rattle.influxql_parser.specs.declared.piece.Piece.TheVariants as piece
use Rattle.influxql_parser.specs.declared.piece.Test.TheVariants as test
use Rattle.influxql_parser.specs.declared.token.Symbol.{Symbol}
use Rattle.influxql_parser.specs.declared.token.Symbol.TheVariants as symbol
use Rattle.influxql_parser.specs.Tokens.{Token, Word, Quoted, Text, Number, Duration, Sign}
use Rattle.influxql_parser.specs.GrammarWords.{is_keyword, symbol_in, name_in, text_in, and_word, or_word, time_word, now_word, true_word, false_word}
use Rattle.influxql_parser.specs.CivilTimes.{civil_time}

-- an integer that 64 bits with a sign hold, and none for any other
abbrev pub in_range : ℤ → Option ℤ
in_range number = if int_le (negsuc 9223372036854775807) number && int_le number (pos 9223372036854775807) then Some number else None

-- a number of digits with a minus or without
abbrev pub signed : Bool → Option ℕ → Option ℤ
signed negative None = None
signed false (Some number) = in_range (pos number)
signed true (Some number) = in_range (neg_ℤ (pos number))

-- a duration, which is in range before its minus is looked at
abbrev pub signed_duration : Bool → Option ℕ → Option ℤ
signed_duration false nanoseconds = signed false nanoseconds
signed_duration true nanoseconds = option_and_then (λ number. Some (neg_ℤ number)) (signed false nanoseconds)

abbrev pub sum_in_range : Option ℤ → Option ℤ → Option ℤ
sum_in_range None more = None
sum_in_range (Some number) None = None
sum_in_range (Some number) (Some more) = in_range (number +ℤ more)

-- `=`, `!=` or `<>`, `<`, `<=`, `>` and `>=`
abbrev pub op_of : Symbol → Option Op
op_of symbol.Equal = Some Eq
op_of symbol.NotEqual = Some Ne
op_of symbol.Less = Some Lt
op_of symbol.LessEqual = Some Le
op_of symbol.Greater = Some Gt
op_of symbol.GreaterEqual = Some Ge
op_of symbol.Open = None
op_of symbol.Close = None
op_of symbol.Comma = None
op_of symbol.Semicolon = None
op_of symbol.Plus = None
op_of symbol.Minus = None
op_of symbol.Star = None

abbrev pub op_in : Token → Option Op
op_in token = option_and_then op_of (symbol_in token)

-- what the time is compared by: the same but for `!=` and `<>`
abbrev pub time_op : Op → Option Op
time_op Eq = Some Eq
time_op Ne = None
time_op Lt = Some Lt
time_op Le = Some Le
time_op Gt = Some Gt
time_op Ge = Some Ge

-- the token is this symbol
abbrev pub is_open : Option Symbol → Bool
is_open (Some symbol.Open) = true
is_open other = false

abbrev pub is_close : Option Symbol → Bool
is_close (Some symbol.Close) = true
is_close other = false

abbrev pub is_minus : Option Symbol → Bool
is_minus (Some symbol.Minus) = true
is_minus other = false

abbrev pub is_plus : Option Symbol → Bool
is_plus (Some symbol.Plus) = true
is_plus other = false

-- a value that was read, with what stands behind it
abbrev pub At : Type 0 → Type 0
At A = Option (A × List Token)

-- digits or a duration, behind a minus or not
abbrev pub amount_at : Bool → List Token → At (Option ℤ)
amount_at negative [] = None
amount_at negative (Number number ∷ tokens) = Some (signed negative number, tokens)
amount_at negative (Duration nanoseconds ∷ tokens) = Some (signed_duration negative nanoseconds, tokens)
amount_at negative (Word word ∷ tokens) = None
amount_at negative (Quoted raw ∷ tokens) = None
amount_at negative (Text raw ∷ tokens) = None
amount_at negative (Sign symbol ∷ tokens) = None

-- `now()`, whose parentheses may stand apart
abbrev pub now_at : ℤ → List ℕ → List Token → At (Option ℤ)
now_at now word (open_token ∷ close_token ∷ tokens) =
    if str_eq_ignore_ascii_case word now_word && (is_open (symbol_in open_token) && is_close (symbol_in close_token)) then Some (Some now, tokens) else None
now_at now word (only ∷ []) = None
now_at now word [] = None

-- what a moment begins with: `now()`, digits, a duration, or the text of a civil moment
abbrev pub base_at : ℤ → List Token → At (Option ℤ)
base_at now [] = None
base_at now (Number number ∷ tokens) = amount_at false (Number number ∷ tokens)
base_at now (Duration nanoseconds ∷ tokens) = amount_at false (Duration nanoseconds ∷ tokens)
base_at now (Word word ∷ tokens) = now_at now word tokens
base_at now (Text raw ∷ tokens) = option_and_then (λ time. Some (in_range time, tokens)) (option_and_then civil_time (text_in raw))
base_at now (Sign symbol ∷ tokens) = if is_minus (Some symbol) then amount_at true tokens else None
base_at now (Quoted raw ∷ tokens) = None

-- the nanoseconds that a token is, where it is a duration
abbrev pub duration_in : Token → Option (Option ℤ)
duration_in (Duration nanoseconds) = Some (signed false nanoseconds)
duration_in (Number number) = None
duration_in (Word word) = None
duration_in (Quoted raw) = None
duration_in (Text raw) = None
duration_in (Sign symbol) = None

abbrev pub negated : Option ℤ → Option ℤ
negated None = None
negated (Some number) = Some (neg_ℤ number)

-- a duration behind a plus or a minus
abbrev pub change_in : Token → Token → Option (Option ℤ)
change_in sign amount =
    if is_plus (symbol_in sign) then duration_in amount
    else if is_minus (symbol_in sign) then option_and_then (λ nanoseconds. Some (negated nanoseconds)) (duration_in amount)
    else None

-- a moment with all durations that are added to it or taken from it, from left to right
abbrev pub sums_at : Option ℤ → List Token → Option ℤ × List Token
sums_at sum [] = (sum, [])
sums_at sum (only ∷ []) = (sum, only ∷ [])
sums_at sum (sign ∷ amount ∷ tokens) = option_map_or (λ change. sums_at (sum_in_range sum change) tokens) (change_in sign amount) (sum, sign ∷ amount ∷ tokens)

-- a moment
abbrev pub moment_at : ℤ → List Token → At (Option ℤ)
moment_at now tokens = option_and_then (λ base. Some (sums_at base.0 base.1)) (base_at now tokens)

-- a number that a name is compared with: an unsigned one where it is too large for a signed one
abbrev pub literal_number : Option ℕ → Option Literal
literal_number None = None
literal_number (Some number) = if nat_le number 9223372036854775807 then Some (literal.Int (pos number)) else Some (literal.Uint number)

-- what a name is compared with: a string, digits, TRUE or FALSE; none where it is out of range
abbrev pub literal_at : List Token → At (Option Literal)
literal_at [] = None
literal_at (Text raw ∷ tokens) = option_and_then (λ text. Some (Some (literal.Text text), tokens)) (text_in raw)
literal_at (Number number ∷ tokens) = Some (literal_number number, tokens)
literal_at (Word word ∷ tokens) =
    if str_eq_ignore_ascii_case word true_word then Some (Some (literal.Bool true), tokens)
    else if str_eq_ignore_ascii_case word false_word then Some (Some (literal.Bool false), tokens) else None
literal_at (Sign symbol ∷ Number number ∷ tokens) =
    if is_minus (Some symbol) then Some (option_and_then (λ amount. Some (literal.Int amount)) (signed true number), tokens) else None
literal_at (Sign symbol ∷ other ∷ tokens) = None
literal_at (Sign symbol ∷ []) = None
literal_at (Quoted raw ∷ tokens) = None
literal_at (Duration nanoseconds ∷ tokens) = None

-- TIME, what it is compared by, and a moment, of which the first stands before
abbrev pub time_test_at : ℤ → List Token → At Piece
time_test_at now [] = None
time_test_at now (compared ∷ tokens) =
    option_and_then (λ op. option_and_then (λ moment. Some (piece.Test (test.Time op moment.0), moment.1)) (moment_at now tokens)) (option_and_then time_op (op_in compared))

-- a name, what it is compared by, and a literal, of which the first stands before
abbrev pub name_test_at : List ℕ → List Token → At Piece
name_test_at name [] = None
name_test_at name (compared ∷ tokens) =
    option_and_then (λ op. option_and_then (λ literal. Some (piece.Test (test.Compare name op literal.0), literal.1)) (literal_at tokens)) (op_in compared)

-- the piece at the front of tokens
abbrev pub piece_at : ℤ → List Token → At Piece
piece_at now [] = None
piece_at now (token ∷ tokens) =
    if is_open (symbol_in token) then Some (piece.Open, tokens)
    else if is_close (symbol_in token) then Some (piece.Close, tokens)
    else if is_keyword and_word token then Some (piece.Join join.And, tokens)
    else if is_keyword or_word token then Some (piece.Join join.Or, tokens)
    else if is_keyword time_word token then time_test_at now tokens
    else option_and_then (λ name. name_test_at name tokens) (name_in token)

-- the tokens are these pieces, and these tokens stand behind them
abbrev pub ArePieces : ℤ → List Piece → List Token → List Token → Type 0
ArePieces now [] tokens behind = tokens ≡ behind
ArePieces now (piece ∷ pieces) tokens behind = (rest : List Token) × (piece_at now tokens ≡ Some (piece, rest)) × ArePieces now pieces rest behind
