-- A condition takes no more room in a log than its pieces are counted for, and is nested no deeper than they are many.
use Rattle.std.proofs.Common.{◌≡◌, ℕ, ◌+◌, ◌≤◌, Bool, true, false, cond, Option, Some, None, List, [], ◌∷◌, ◌++◌, length, arith, refl, sym, ap, ◌∙◌}
use Rattle.std.proofs.lemmas.List.{length-append}
use Rattle.std.proofs.lemmas.List.Elements.{All-nil, All-cons, All-append}
use Rattle.std.specs.Prelude.{All, nat_le}
use Rattle.point_model.specs.Conditions as tags
use Rattle.point_model.specs.Conditions.{texts_of, nesting, larger}
use Rattle.point_model.specs.Sizes.{condition_length}
use Rattle.point_model.specs.declared.part.Join.{Join}
use Rattle.point_model.specs.declared.part.Join.TheVariants as join
use Rattle.query_model.specs.declared.condition.Literal.{Literal}
use Rattle.query_model.specs.declared.condition.Literal.TheVariants as literal
use Rattle.query_model.specs.declared.condition.Op.{Op}
use Rattle.query_model.specs.declared.condition.Op.TheVariants as op
use Rattle.influxql_parser.specs.declared.piece.Piece.{Piece}
use Rattle.influxql_parser.specs.declared.piece.Piece.TheVariants as piece
use Rattle.influxql_parser.specs.declared.piece.Test.{Test}
use Rattle.influxql_parser.specs.declared.piece.Test.TheVariants as test
use Rattle.influxql_parser.specs.DeletionTags.{deletion_test_tags, deletion_atom_tags, deletion_both_tags, deletion_either_tags}
use Rattle.influxql_parser.specs.Facts.{AreShort, HasRoom, IsShort, IsShortTest, size_of, size_of_all, size_of_test}
use Rattle.influxql_parser.specs.GrammarConditions.{Atom, Both, Either, Tested, Inner, OneAtom, And, OneBoth, Or, atom_pieces, both_pieces, either_pieces}
use Rattle.influxql_parser.specs.Reads.{IsShortEnough}

abbrev IsShortText : List ℕ → Type 0
IsShortText text = length text ≤ 65535

-- pieces have room for what they ask
record IsSized (ps : List Piece) (asked : tags.Condition) : Type 0 where
  pub bytes : condition_length asked ≤ size_of_all ps
  pub nested : nesting asked ≤ length ps
  pub texts : AreShort ps → All IsShortText (texts_of asked)

size-append : (ps qs : List Piece) → size_of_all (ps ++ qs) ≡ size_of_all ps + size_of_all qs
size-append [] qs = omega arith
size-append (p ∷ ps) qs = omega (arith, size-append ps qs)

short-append : (ps qs : List Piece) → AreShort (ps ++ qs) → AreShort ps × AreShort qs
short-append [] qs short = (tt, short)
short-append (p ∷ ps) qs (first, short) = let both = short-append ps qs short in ((first, both.0), both.1)

true-sized : (t : Test) → 5 ≤ size_of_test t → IsSized (piece.Test t ∷ []) tags.True
true-sized t least = record { bytes = omega (arith, least); nested = omega arith; texts = λ short. All-nil IsShortText }

eq-sized : (name text : List ℕ) → IsSized (piece.Test (test.Compare name op.Eq (Some (literal.Text text))) ∷ []) (tags.Eq name text)
eq-sized name text = record {
  bytes = omega arith;
  nested = omega arith;
  texts = λ short. All-cons IsShortText name (text ∷ []) short.0.0 (All-cons IsShortText text [] short.0.1 (All-nil IsShortText));
}

ne-sized : (name text : List ℕ) → IsSized (piece.Test (test.Compare name op.Ne (Some (literal.Text text))) ∷ []) (tags.Ne name text)
ne-sized name text = record {
  bytes = omega arith;
  nested = omega arith;
  texts = λ short. All-cons IsShortText name (text ∷ []) short.0.0 (All-cons IsShortText text [] short.0.1 (All-nil IsShortText));
}

five : (t : Test) → 5 ≤ size_of_test t
five (test.Time o m) = omega arith
five (test.Compare name o None) = omega arith
five (test.Compare name o (Some (literal.Text text))) = omega arith
five (test.Compare name o (Some (literal.Int n))) = omega arith
five (test.Compare name o (Some (literal.Uint n))) = omega arith
five (test.Compare name o (Some (literal.Bool b))) = omega arith

test-sized : (t : Test) → IsSized (piece.Test t ∷ []) (deletion_test_tags t)
test-sized (test.Time o m) = true-sized (test.Time o m) (five (test.Time o m))
test-sized (test.Compare name op.Eq (Some (literal.Text text))) = eq-sized name text
test-sized (test.Compare name op.Ne (Some (literal.Text text))) = ne-sized name text
test-sized (test.Compare name op.Eq None) = true-sized (test.Compare name op.Eq None) (five (test.Compare name op.Eq None))
test-sized (test.Compare name op.Eq (Some (literal.Int n))) = true-sized (test.Compare name op.Eq (Some (literal.Int n))) (five (test.Compare name op.Eq (Some (literal.Int n))))
test-sized (test.Compare name op.Eq (Some (literal.Uint n))) = true-sized (test.Compare name op.Eq (Some (literal.Uint n))) (five (test.Compare name op.Eq (Some (literal.Uint n))))
test-sized (test.Compare name op.Eq (Some (literal.Bool b))) = true-sized (test.Compare name op.Eq (Some (literal.Bool b))) (five (test.Compare name op.Eq (Some (literal.Bool b))))
test-sized (test.Compare name op.Ne None) = true-sized (test.Compare name op.Ne None) (five (test.Compare name op.Ne None))
test-sized (test.Compare name op.Ne (Some (literal.Int n))) = true-sized (test.Compare name op.Ne (Some (literal.Int n))) (five (test.Compare name op.Ne (Some (literal.Int n))))
test-sized (test.Compare name op.Ne (Some (literal.Uint n))) = true-sized (test.Compare name op.Ne (Some (literal.Uint n))) (five (test.Compare name op.Ne (Some (literal.Uint n))))
test-sized (test.Compare name op.Ne (Some (literal.Bool b))) = true-sized (test.Compare name op.Ne (Some (literal.Bool b))) (five (test.Compare name op.Ne (Some (literal.Bool b))))
test-sized (test.Compare name op.Lt l) = true-sized (test.Compare name op.Lt l) (five (test.Compare name op.Lt l))
test-sized (test.Compare name op.Le l) = true-sized (test.Compare name op.Le l) (five (test.Compare name op.Le l))
test-sized (test.Compare name op.Gt l) = true-sized (test.Compare name op.Gt l) (five (test.Compare name op.Gt l))
test-sized (test.Compare name op.Ge l) = true-sized (test.Compare name op.Ge l) (five (test.Compare name op.Ge l))

larger-within : (a b m n : ℕ) → a ≤ m → b ≤ n → larger a b ≤ m + n
larger-within a b m n first second = by (nat_le a b)
  where
    by : (x : Bool) → cond x b a ≤ m + n
    by true = omega (arith, second)
    by false = omega (arith, first)

and-sized : (ps qs : List Piece) (j : Join) (a b : tags.Condition) → IsSized ps a → IsSized qs b → IsSized (ps ++ piece.Join j ∷ qs) (tags.And a b)
and-sized ps qs j a b first second = record {
  bytes = omega (arith, first.bytes, second.bytes, size-append ps (piece.Join j ∷ qs));
  nested = omega (arith, larger-within (nesting a) (nesting b) (length ps) (length qs) first.nested second.nested, length-append ps (piece.Join j ∷ qs));
  texts = λ short. let both = short-append ps (piece.Join j ∷ qs) short in All-append IsShortText (texts_of a) (texts_of b) (first.texts both.0) (second.texts both.1.1);
}

or-sized : (ps qs : List Piece) (j : Join) (a b : tags.Condition) → IsSized ps a → IsSized qs b → IsSized (ps ++ piece.Join j ∷ qs) (tags.Or a b)
or-sized ps qs j a b first second = record {
  bytes = omega (arith, first.bytes, second.bytes, size-append ps (piece.Join j ∷ qs));
  nested = omega (arith, larger-within (nesting a) (nesting b) (length ps) (length qs) first.nested second.nested, length-append ps (piece.Join j ∷ qs));
  texts = λ short. let both = short-append ps (piece.Join j ∷ qs) short in All-append IsShortText (texts_of a) (texts_of b) (first.texts both.0) (second.texts both.1.1);
}

inner-sized : (ps : List Piece) (a : tags.Condition) → IsSized ps a → IsSized (piece.Open ∷ (ps ++ piece.Close ∷ [])) a
inner-sized ps a within = record {
  bytes = omega (arith, within.bytes, size-append ps (piece.Close ∷ []));
  nested = omega (arith, within.nested, length-append ps (piece.Close ∷ []));
  texts = λ short. within.texts (short-append ps (piece.Close ∷ []) short.1).0;
}

mutual
  atom-sized : (a : Atom) → IsSized (atom_pieces a) (deletion_atom_tags a)
  atom-sized (Tested t) = test-sized t
  atom-sized (Inner c) = inner-sized (either_pieces c) (deletion_either_tags c) (either-sized c)

  both-sized : (b : Both) → IsSized (both_pieces b) (deletion_both_tags b)
  both-sized (OneAtom a) = atom-sized a
  both-sized (And b a) = and-sized (both_pieces b) (atom_pieces a) join.And (deletion_both_tags b) (deletion_atom_tags a) (both-sized b) (atom-sized a)

  either-sized : (c : Either) → IsSized (either_pieces c) (deletion_either_tags c)
  either-sized (OneBoth b) = both-sized b
  either-sized (Or e b) = or-sized (either_pieces e) (both_pieces b) join.Or (deletion_either_tags e) (deletion_both_tags b) (either-sized e) (both-sized b)

pub short-enough : (c : Either) → HasRoom (either_pieces c) → IsShortEnough (deletion_either_tags c)
short-enough c room = let sized = either-sized c in record {
  texts = sized.texts room.short;
  nested = omega (arith, sized.nested, room.few);
  fits = omega (arith, sized.bytes, room.fits);
}

pub none-short : IsShortEnough tags.True
none-short = record { texts = All-nil IsShortText; nested = omega arith; fits = omega arith }
