-- What do the pieces of a condition tell by themselves? Words of the contracts within.
use Rattle.std.specs.Prelude.{ℕ, ◌+◌, ◌-◌, ◌≤◌, Bool, true, false, ◌&&◌, ◌||◌, nat_lt, Option, Some, None, List, [], ◌∷◌, length, if◌then◌else◌}
use Rattle.query_model.specs.declared.condition.Literal.TheVariants as literal
use Rattle.query_model.specs.declared.condition.Op.{Op}
use Rattle.query_model.specs.declared.condition.Op.TheVariants.{Eq, Ne}
use Rattle.influxql_parser.specs.declared.facts.Facts.{Facts}
use Rattle.influxql_parser.specs.declared.piece.Piece.{Piece}
use Rattle.influxql_parser.specs.declared.piece.Piece.TheVariants as piece
use Rattle.influxql_parser.specs.declared.piece.Test.{Test}
use Rattle.influxql_parser.specs.declared.piece.Test.TheVariants as test
use Rattle.influxql_parser.specs.Bounds.{lower_bound_of, upper_bound_of, greater_of, less_of}
use Rattle.influxql_parser.specs.GrammarConditions.{is_of_time}
use Rattle.influxql_parser.specs.GrammarDeletions.{is_of_tag_or_time}
use Rattle.influxql_parser.specs.Deletions.{is_out_of_range}

abbrev pub is_equality : Op → Bool
is_equality Eq = true
is_equality Ne = true
is_equality other = false

abbrev pub nothing_told : Facts
nothing_told = record { allowed = true; timed = false; out_of_range = false; lower = None; upper = None }

abbrev pub with_test : Test → Facts → Facts
with_test test facts = record {
  allowed = is_of_tag_or_time test && facts.allowed;
  timed = is_of_time test || facts.timed;
  out_of_range = is_out_of_range test || facts.out_of_range;
  lower = greater_of (lower_bound_of test) facts.lower;
  upper = less_of (upper_bound_of test) facts.upper;
}

abbrev pub with_piece : Piece → Facts → Facts
with_piece piece.Open facts = facts
with_piece piece.Close facts = facts
with_piece (piece.Join join) facts = facts
with_piece (piece.Test test) facts = with_test test facts

-- what the pieces tell, in front of others that told these facts
abbrev pub facts_from : List Piece → Facts → Facts
facts_from [] facts = facts
facts_from (piece ∷ pieces) facts = with_piece piece (facts_from pieces facts)

-- how many parentheses are open behind a piece, where those are at most 64
abbrev pub depth_behind : ℕ → Piece → Option ℕ
depth_behind depth piece.Open = if nat_lt depth 64 then Some (depth + 1) else None
depth_behind depth piece.Close = Some (depth - 1)
depth_behind depth (piece.Join join) = Some depth
depth_behind depth (piece.Test test) = Some depth

-- the bytes that a comparison takes in a log, at most
abbrev pub size_of_test : Test → ℕ
size_of_test (test.Compare name op (Some (literal.Text text))) = 5 + (length name + length text)
size_of_test other = 5

abbrev pub IsShortTest : Test → Type 0
IsShortTest (test.Compare name op (Some (literal.Text text))) = (length name ≤ 65535) × (length text ≤ 65535)
IsShortTest other = Unit {0}

abbrev pub size_of : Piece → ℕ
size_of piece.Open = 0
size_of piece.Close = 0
size_of (piece.Join join) = 1
size_of (piece.Test test) = size_of_test test

abbrev pub IsShort : Piece → Type 0
IsShort piece.Open = Unit {0}
IsShort piece.Close = Unit {0}
IsShort (piece.Join join) = Unit {0}
IsShort (piece.Test test) = IsShortTest test

abbrev pub AreShort : List Piece → Type 0
AreShort [] = Unit {0}
AreShort (piece ∷ pieces) = IsShort piece × AreShort pieces

-- the bytes that pieces take in a log, at most
abbrev pub size_of_all : List Piece → ℕ
size_of_all [] = 0
size_of_all (piece ∷ pieces) = size_of piece + size_of_all pieces

-- a log has room for what the pieces ask, with a measurement of at most 65,535 bytes
pub record HasRoom (pieces : List Piece) : Type 0 where
  pub few : length pieces ≤ 65536
  pub short : AreShort pieces
  pub fits : size_of_all pieces ≤ 1073676258
