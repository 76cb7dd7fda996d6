-- Which pieces are tokens by themselves, and which begin with one? Words of the contracts within.
use Rattle.std.specs.Prelude.{ℕ, ℤ, Bool, true, false, Option, Some, None, List, option_and_then, if◌then◌else◌}
use Rattle.std.specs.Str.{str_eq_ignore_ascii_case}
use Rattle.point_model.specs.declared.part.Join.TheVariants as join
use Rattle.influxql_parser.specs.declared.piece.Piece.{Piece}
use Rattle.influxql_parser.specs.declared.piece.Piece.TheVariants as piece
use Rattle.influxql_parser.specs.Tokens.{Token}
use Rattle.influxql_parser.specs.GrammarWords.{is_keyword, symbol_in, name_in, and_word, or_word, time_word, true_word, false_word}
use Rattle.influxql_parser.specs.GrammarPieces.{At, is_open, is_close, time_test_at, name_test_at}

-- a parenthesis, AND or OR
abbrev pub mark_in : Token → Option Piece
mark_in token =
    if is_open (symbol_in token) then Some piece.Open
    else if is_close (symbol_in token) then Some piece.Close
    else if is_keyword and_word token then Some (piece.Join join.And)
    else if is_keyword or_word token then Some (piece.Join join.Or) else None

-- a comparison, of which this token stands before the others
abbrev pub test_at : ℤ → Token → List Token → At Piece
test_at now first tokens =
    if is_keyword time_word first then time_test_at now tokens else option_and_then (λ name. name_test_at name tokens) (name_in first)

-- TRUE or FALSE
abbrev pub truth_of : List ℕ → Option Bool
truth_of word =
    if str_eq_ignore_ascii_case word true_word then Some true else if str_eq_ignore_ascii_case word false_word then Some false else None
