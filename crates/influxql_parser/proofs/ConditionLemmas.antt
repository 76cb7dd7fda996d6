-- The pieces of a condition are read back to it: step by step, with what is open around the place.
use Rattle.std.proofs.Common.{◌≡◌, Bool, true, false, ◌||◌, Option, Some, None, List, [], ◌∷◌, ◌++◌, refl, sym, ap, ◌∙◌}
use Rattle.std.proofs.lemmas.List.{append_assoc, append-nil}
use Rattle.std.specs.Prelude.{option_and_then}
use Rattle.point_model.specs.declared.part.Join.TheVariants as join
use Rattle.influxql_parser.specs.declared.piece.Piece.{Piece}
use Rattle.influxql_parser.specs.declared.piece.Piece.TheVariants as piece
use Rattle.influxql_parser.specs.GrammarConditions.{Atom, Both, Either, Tested, Inner, OneAtom, And, OneBoth, Or, atom_pieces, both_pieces, either_pieces}
use Rattle.influxql_parser.proofs.ShowLemmas.{none≢some, same-some}

-- the sides of OR and of AND before a place
abbrev pub Sides : Type 0
Sides = Option Either × Option Both

-- what is open around the place, the innermost first, and what stands before it within
pub data Place : Type 0 where
  Here : List Sides → Option Either → Option Both → Option Atom → Place

abbrev pub both_with : Option Both → Atom → Both
both_with None a = OneAtom a
both_with (Some b) a = And b a

abbrev pub either_with : Option Either → Both → Either
either_with None b = OneBoth b
either_with (Some e) b = Or e b

abbrev pub advance : Place → Piece → Option Place
advance (Here outer e b None) piece.Open = Some (Here ((e, b) ∷ outer) None None None)
advance (Here outer e b (Some a)) piece.Open = None
advance (Here [] e b a) piece.Close = None
advance (Here (sides ∷ outer) e b None) piece.Close = None
advance (Here (sides ∷ outer) e b (Some a)) piece.Close = Some (Here outer sides.0 sides.1 (Some (Inner (either_with e (both_with b a)))))
advance (Here outer e b None) (piece.Join j) = None
advance (Here outer e b (Some a)) (piece.Join join.And) = Some (Here outer e (Some (both_with b a)) None)
advance (Here outer e b (Some a)) (piece.Join join.Or) = Some (Here outer (Some (either_with e (both_with b a))) None None)
advance (Here outer e b None) (piece.Test t) = Some (Here outer e b (Some (Tested t)))
advance (Here outer e b (Some a)) (piece.Test t) = None

abbrev pub passed : Option Place → List Piece → Option Place
passed place [] = place
passed place (p ∷ ps) = passed (option_and_then (λ at. advance at p) place) ps

abbrev pub finish : Place → Option Either
finish (Here [] e b None) = None
finish (Here [] e b (Some a)) = Some (either_with e (both_with b a))
finish (Here (sides ∷ outer) e b a) = None

abbrev pub start : Place
start = Here [] None None None

abbrev pub parse : List Piece → Option Either
parse ps = option_and_then finish (passed (Some start) ps)

abbrev pub ands_of : Both → Option Both
ands_of (OneAtom a) = None
ands_of (And b a) = Some b

abbrev pub last_atom : Both → Atom
last_atom (OneAtom a) = a
last_atom (And b a) = a

abbrev pub ors_of : Either → Option Either
ors_of (OneBoth b) = None
ors_of (Or e b) = Some e

abbrev pub last_both : Either → Both
last_both (OneBoth b) = b
last_both (Or e b) = b

whole-both : (b : Both) → both_with (ands_of b) (last_atom b) ≡ b
whole-both (OneAtom a) = refl
whole-both (And b a) = refl

whole-either : (c : Either) → either_with (ors_of c) (both_with (ands_of (last_both c)) (last_atom (last_both c))) ≡ c
whole-either (OneBoth b) = ap (λ (x : Both). OneBoth x) (whole-both b)
whole-either (Or e b) = ap (λ (x : Both). Or e x) (whole-both b)

-- the place behind a condition
abbrev behind : List Sides → Either → Place
behind outer c = Here outer (ors_of c) (ands_of (last_both c)) (Some (last_atom (last_both c)))

mutual
  pub atom-read : (a : Atom) (outer : List Sides) (e : Option Either) (b : Option Both) (rest : List Piece) →
      passed (Some (Here outer e b None)) (atom_pieces a ++ rest) ≡ passed (Some (Here outer e b (Some a))) rest
  atom-read (Tested t) outer e b rest = refl
  atom-read (Inner c) outer e b rest =
      ap (λ (ps : List Piece). passed (Some (Here ((e, b) ∷ outer) None None None)) ps) (append_assoc (either_pieces c) (piece.Close ∷ []) rest)
      ∙ either-read c ((e, b) ∷ outer) (piece.Close ∷ rest)
      ∙ ap (λ (x : Either). passed (Some (Here outer e b (Some (Inner x)))) rest) (whole-either c)

  pub both-read : (b : Both) (outer : List Sides) (e : Option Either) (rest : List Piece) →
      passed (Some (Here outer e None None)) (both_pieces b ++ rest) ≡ passed (Some (Here outer e (ands_of b) (Some (last_atom b)))) rest
  both-read (OneAtom a) outer e rest = atom-read a outer e None rest
  both-read (And b a) outer e rest =
      ap (λ (ps : List Piece). passed (Some (Here outer e None None)) ps) (append_assoc (both_pieces b) (piece.Join join.And ∷ atom_pieces a) rest)
      ∙ both-read b outer e (piece.Join join.And ∷ (atom_pieces a ++ rest))
      ∙ ap (λ (x : Both). passed (Some (Here outer e (Some x) None)) (atom_pieces a ++ rest)) (whole-both b)
      ∙ atom-read a outer e (Some b) rest

  pub either-read : (c : Either) (outer : List Sides) (rest : List Piece) →
      passed (Some (Here outer None None None)) (either_pieces c ++ rest) ≡ passed (Some (behind outer c)) rest
  either-read (OneBoth b) outer rest = both-read b outer None rest
  either-read (Or e b) outer rest =
      ap (λ (ps : List Piece). passed (Some (Here outer None None None)) ps) (append_assoc (either_pieces e) (piece.Join join.Or ∷ both_pieces b) rest)
      ∙ either-read e outer (piece.Join join.Or ∷ (both_pieces b ++ rest))
      ∙ ap (λ (x : Either). passed (Some (Here outer (Some x) None None)) (both_pieces b ++ rest)) (whole-either e)
      ∙ both-read b outer (Some e) rest

pub parse-pieces : (c : Either) → parse (either_pieces c) ≡ Some c
parse-pieces c =
    ap (λ (ps : List Piece). parse ps) (sym (append-nil (either_pieces c)))
    ∙ ap (λ (p : Option Place). option_and_then finish p) (either-read c [] [])
    ∙ ap (λ (x : Either). Some x) (whole-either c)

-- the pieces of a condition tell it
pub one-condition : (c d : Either) → either_pieces c ≡ either_pieces d → c ≡ d
one-condition c d same = same-some (parse (either_pieces c)) c d (parse-pieces c) (ap (λ (ps : List Piece). parse ps) same ∙ parse-pieces d)

abbrev or_front : Option Either → List Piece
or_front None = []
or_front (Some e) = either_pieces e ++ piece.Join join.Or ∷ []

abbrev and_front : Option Both → List Piece
and_front None = []
and_front (Some b) = both_pieces b ++ piece.Join join.And ∷ []

abbrev atom_part : Option Atom → List Piece
atom_part None = []
atom_part (Some a) = atom_pieces a

abbrev outer_part : List Sides → List Piece
outer_part [] = []
outer_part (sides ∷ outer) = outer_part outer ++ ((or_front sides.0 ++ and_front sides.1) ++ piece.Open ∷ [])

-- the pieces before a place
abbrev pub written : Place → List Piece
written (Here outer e b a) = outer_part outer ++ ((or_front e ++ and_front b) ++ atom_part a)

both-pieces : (b : Option Both) (a : Atom) → both_pieces (both_with b a) ≡ and_front b ++ atom_pieces a
both-pieces None a = refl
both-pieces (Some b) a = sym (append_assoc (both_pieces b) (piece.Join join.And ∷ []) (atom_pieces a))

either-pieces : (e : Option Either) (b : Option Both) (a : Atom) → either_pieces (either_with e (both_with b a)) ≡ (or_front e ++ and_front b) ++ atom_pieces a
either-pieces None b a = both-pieces b a
either-pieces (Some e) b a =
    ap (λ (ps : List Piece). either_pieces e ++ piece.Join join.Or ∷ ps) (both-pieces b a)
    ∙ sym (append_assoc (either_pieces e) (piece.Join join.Or ∷ []) (and_front b ++ atom_pieces a))
    ∙ sym (append_assoc (or_front (Some e)) (and_front b) (atom_pieces a))

-- the lists that make up the pieces before a place, with one piece more
open-list : (o s : List Piece) → (o ++ (s ++ piece.Open ∷ [])) ++ [] ≡ (o ++ (s ++ [])) ++ piece.Open ∷ []
open-list o s =
    append-nil (o ++ (s ++ piece.Open ∷ []))
    ∙ sym (append_assoc o s (piece.Open ∷ []))
    ∙ ap (λ (t : List Piece). (o ++ t) ++ piece.Open ∷ []) (sym (append-nil s))

close-list : (o s i a : List Piece) → o ++ (s ++ (piece.Open ∷ ((i ++ a) ++ piece.Close ∷ []))) ≡ ((o ++ (s ++ piece.Open ∷ [])) ++ (i ++ a)) ++ piece.Close ∷ []
close-list o s i a =
    ap (λ (t : List Piece). o ++ t) (sym (append_assoc s (piece.Open ∷ []) ((i ++ a) ++ piece.Close ∷ [])))
    ∙ sym (append_assoc o (s ++ piece.Open ∷ []) ((i ++ a) ++ piece.Close ∷ []))
    ∙ sym (append_assoc (o ++ (s ++ piece.Open ∷ [])) (i ++ a) (piece.Close ∷ []))

and-list : (o e b a : List Piece) → o ++ ((e ++ ((b ++ a) ++ piece.Join join.And ∷ [])) ++ []) ≡ (o ++ ((e ++ b) ++ a)) ++ piece.Join join.And ∷ []
and-list o e b a =
    ap (λ (t : List Piece). o ++ t) (append-nil (e ++ ((b ++ a) ++ piece.Join join.And ∷ [])) ∙ sym (append_assoc e (b ++ a) (piece.Join join.And ∷ [])) ∙ ap (λ (t : List Piece). t ++ piece.Join join.And ∷ []) (sym (append_assoc e b a)))
    ∙ sym (append_assoc o ((e ++ b) ++ a) (piece.Join join.And ∷ []))

or-list : (o s a : List Piece) → o ++ ((((s ++ a) ++ piece.Join join.Or ∷ []) ++ []) ++ []) ≡ (o ++ (s ++ a)) ++ piece.Join join.Or ∷ []
or-list o s a =
    ap (λ (t : List Piece). o ++ t) (append-nil (((s ++ a) ++ piece.Join join.Or ∷ []) ++ []) ∙ append-nil ((s ++ a) ++ piece.Join join.Or ∷ []))
    ∙ sym (append_assoc o (s ++ a) (piece.Join join.Or ∷ []))

test-list : (o s p : List Piece) → o ++ (s ++ p) ≡ (o ++ (s ++ [])) ++ p
test-list o s p = ap (λ (t : List Piece). o ++ (t ++ p)) (sym (append-nil s)) ∙ sym (append_assoc o (s ++ []) p)

some-is : {A : Type 0} (x y : A) → Some x ≡ Some y → x ≡ y
some-is x y e = same-some (Some x) x y refl e

advance-written : (p : Place) (one : Piece) (q : Place) → advance p one ≡ Some q → written q ≡ written p ++ one ∷ []
advance-written (Here outer e b None) piece.Open q is =
    ap (λ (x : Place). written x) (sym (some-is (Here ((e, b) ∷ outer) None None None) q is)) ∙ open-list (outer_part outer) (or_front e ++ and_front b)
advance-written (Here outer e b (Some a)) piece.Open q is = absurd (none≢some q is)
advance-written (Here [] e b a) piece.Close q is = absurd (none≢some q is)
advance-written (Here (sides ∷ outer) e b None) piece.Close q is = absurd (none≢some q is)
advance-written (Here (sides ∷ outer) e b (Some a)) piece.Close q is =
    ap (λ (x : Place). written x) (sym (some-is (Here outer sides.0 sides.1 (Some (Inner (either_with e (both_with b a))))) q is))
    ∙ ap (λ (t : List Piece). outer_part outer ++ ((or_front sides.0 ++ and_front sides.1) ++ (piece.Open ∷ (t ++ piece.Close ∷ [])))) (either-pieces e b a)
    ∙ close-list (outer_part outer) (or_front sides.0 ++ and_front sides.1) (or_front e ++ and_front b) (atom_pieces a)
advance-written (Here outer e b None) (piece.Join j) q is = absurd (none≢some q is)
advance-written (Here outer e b (Some a)) (piece.Join join.And) q is =
    ap (λ (x : Place). written x) (sym (some-is (Here outer e (Some (both_with b a)) None) q is))
    ∙ ap (λ (t : List Piece). outer_part outer ++ ((or_front e ++ (t ++ piece.Join join.And ∷ [])) ++ [])) (both-pieces b a)
    ∙ and-list (outer_part outer) (or_front e) (and_front b) (atom_pieces a)
advance-written (Here outer e b (Some a)) (piece.Join join.Or) q is =
    ap (λ (x : Place). written x) (sym (some-is (Here outer (Some (either_with e (both_with b a))) None None) q is))
    ∙ ap (λ (t : List Piece). outer_part outer ++ (((t ++ piece.Join join.Or ∷ []) ++ []) ++ [])) (either-pieces e b a)
    ∙ or-list (outer_part outer) (or_front e ++ and_front b) (atom_pieces a)
advance-written (Here outer e b None) (piece.Test t) q is =
    ap (λ (x : Place). written x) (sym (some-is (Here outer e b (Some (Tested t))) q is)) ∙ test-list (outer_part outer) (or_front e ++ and_front b) (piece.Test t ∷ [])
advance-written (Here outer e b (Some a)) (piece.Test t) q is = absurd (none≢some q is)

passed-none : (ps : List Piece) → passed None ps ≡ None
passed-none [] = refl
passed-none (p ∷ ps) = passed-none ps

pub passed-written : (ps : List Piece) (p q : Place) → passed (Some p) ps ≡ Some q → written q ≡ written p ++ ps
passed-written [] p q is = ap (λ (x : Place). written x) (sym (some-is p q is)) ∙ sym (append-nil (written p))
passed-written (one ∷ ps) p q is = by (advance p one) refl is (λ next. passed-written ps next q)
  where
    by : (o : Option Place) → advance p one ≡ o → passed o ps ≡ Some q → ((next : Place) → passed (Some next) ps ≡ Some q → written q ≡ written next ++ ps) → written q ≡ written p ++ one ∷ ps
    by None at is more = absurd (none≢some q (sym (passed-none ps) ∙ is))
    by (Some next) at is more =
        more next is ∙ ap (λ (t : List Piece). t ++ ps) (advance-written p one next at) ∙ append_assoc (written p) (one ∷ []) ps

finish-written : (p : Place) (c : Either) → finish p ≡ Some c → either_pieces c ≡ written p
finish-written (Here [] e b None) c is = absurd (none≢some c is)
finish-written (Here [] e b (Some a)) c is =
    ap (λ (x : Either). either_pieces x) (sym (some-is (either_with e (both_with b a)) c is)) ∙ either-pieces e b a
finish-written (Here (sides ∷ outer) e b a) c is = absurd (none≢some c is)

-- what is read has the pieces that it was read from
pub parse-written : (ps : List Piece) (c : Either) → parse ps ≡ Some c → either_pieces c ≡ ps
parse-written ps c is = by (passed (Some start) ps) refl is
  where
    by : (o : Option Place) → passed (Some start) ps ≡ o → option_and_then finish o ≡ Some c → either_pieces c ≡ ps
    by None at is = absurd (none≢some c is)
    by (Some place) at is = finish-written place c is ∙ passed-written ps start place at
