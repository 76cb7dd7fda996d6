-- What does the condition of a deletion ask of the tags of a series? (A SELECT's condition asks otherwise: its names may be fields.)
use Rattle.std.specs.Prelude.{Some}
use Rattle.point_model.specs.Conditions as tags
use Rattle.query_model.specs.declared.condition.Literal.TheVariants as literal
use Rattle.query_model.specs.declared.condition.Op.TheVariants.{Eq, Ne}
use Rattle.influxql_parser.specs.declared.piece.Test.{Test}
use Rattle.influxql_parser.specs.declared.piece.Test.TheVariants as test
use Rattle.influxql_parser.specs.GrammarConditions.{Atom, Both, Either, Tested, Inner, OneAtom, And, OneBoth, Or}

-- a comparison that a deletion may have: a name with a string for equality is one of a tag; what one of the time leaves is met by all
abbrev pub deletion_test_tags : Test → tags.Condition
deletion_test_tags (test.Compare name Eq (Some (literal.Text text))) = tags.Eq name text
deletion_test_tags (test.Compare name Ne (Some (literal.Text text))) = tags.Ne name text
deletion_test_tags other = tags.True

-- what a condition of a deletion asks of tags
abbrev mutual
  pub deletion_atom_tags : Atom → tags.Condition
  deletion_atom_tags (Tested test) = deletion_test_tags test
  deletion_atom_tags (Inner condition) = deletion_either_tags condition

  pub deletion_both_tags : Both → tags.Condition
  deletion_both_tags (OneAtom atom) = deletion_atom_tags atom
  deletion_both_tags (And both atom) = tags.And (deletion_both_tags both) (deletion_atom_tags atom)

  pub deletion_either_tags : Either → tags.Condition
  deletion_either_tags (OneBoth both) = deletion_both_tags both
  deletion_either_tags (Or either both) = tags.Or (deletion_either_tags either) (deletion_both_tags both)
