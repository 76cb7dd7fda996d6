-- How do comparisons, AND, OR and parentheses make a condition?
use Rattle.std.specs.Prelude.{ℕ, suc, ◌-◌, Bool, true, false, ◌&&◌, ◌||◌, nat_lt, List, [], ◌∷◌, ◌++◌}
use Rattle.std.specs.List.{list_any}
use Rattle.point_model.specs.declared.part.Join.TheVariants as join
use Rattle.influxql_parser.specs.declared.piece.Piece.{Piece}
use Rattle.influxql_parser.specs.declared.piece.Piece.TheVariants as piece
use Rattle.influxql_parser.specs.declared.piece.Test.{Test}
use Rattle.influxql_parser.specs.declared.piece.Test.TheVariants as test

-- A comparison, or a condition in parentheses; such atoms joined by AND; those joined by OR. Both chains nest to the left.
mutual
  pub data Atom : Type 0 where
    Tested : Test → Atom
    Inner : Either → Atom

  pub data Both : Type 0 where
    OneAtom : Atom → Both
    And : Both → Atom → Both

  pub data Either : Type 0 where
    OneBoth : Both → Either
    Or : Either → Both → Either

-- the pieces of a condition, from left to right
abbrev mutual
  pub atom_pieces : Atom → List Piece
  atom_pieces (Tested test) = piece.Test test ∷ []
  atom_pieces (Inner condition) = piece.Open ∷ (either_pieces condition ++ piece.Close ∷ [])

  pub both_pieces : Both → List Piece
  both_pieces (OneAtom atom) = atom_pieces atom
  both_pieces (And both atom) = both_pieces both ++ piece.Join join.And ∷ atom_pieces atom

  pub either_pieces : Either → List Piece
  either_pieces (OneBoth both) = both_pieces both
  either_pieces (Or either both) = either_pieces either ++ piece.Join join.Or ∷ both_pieces both

-- where so many parentheses are open, no more than 64 are at any place
abbrev pub nests_within : ℕ → List Piece → Bool
nests_within depth [] = true
nests_within depth (piece.Open ∷ pieces) = nat_lt depth 64 && nests_within (suc depth) pieces
nests_within depth (piece.Close ∷ pieces) = nests_within (depth - 1) pieces
nests_within depth (piece.Join join ∷ pieces) = nests_within depth pieces
nests_within depth (piece.Test test ∷ pieces) = nests_within depth pieces

-- the comparisons that stand among pieces
abbrev pub tests_in : List Piece → List Test
tests_in [] = []
tests_in (piece.Open ∷ pieces) = tests_in pieces
tests_in (piece.Close ∷ pieces) = tests_in pieces
tests_in (piece.Join join ∷ pieces) = tests_in pieces
tests_in (piece.Test test ∷ pieces) = test ∷ tests_in pieces

abbrev pub is_of_time : Test → Bool
is_of_time (test.Time op moment) = true
is_of_time (test.Compare name op literal) = false

-- a comparison of time stands under an OR
abbrev mutual
  pub atom_has_time_in_or : Atom → Bool
  atom_has_time_in_or (Tested test) = false
  atom_has_time_in_or (Inner condition) = either_has_time_in_or condition

  pub both_has_time_in_or : Both → Bool
  both_has_time_in_or (OneAtom atom) = atom_has_time_in_or atom
  both_has_time_in_or (And both atom) = both_has_time_in_or both || atom_has_time_in_or atom

  pub either_has_time_in_or : Either → Bool
  either_has_time_in_or (OneBoth both) = both_has_time_in_or both
  either_has_time_in_or (Or either both) =
      list_any is_of_time (tests_in (either_pieces either)) || list_any is_of_time (tests_in (both_pieces both))
