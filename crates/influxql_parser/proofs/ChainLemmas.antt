-- The chains of a condition that is being read, as those of the condition that is read back.
use Rattle.std.proofs.Common.{◌≡◌, Bool, true, false, ◌||◌, cond, Option, Some, None, List, [], ◌∷◌, ◌++◌, map, refl, sym, ap, ◌∙◌}
use Rattle.std.specs.Prelude.{option_and_then}
use Rattle.std.specs.List.{list_any}
use Rattle.point_model.specs.Conditions as tags
use Rattle.point_model.specs.declared.part.Join.TheVariants as join
use Rattle.influxql_parser.specs.declared.chain.Asked.{Asked}
use Rattle.influxql_parser.specs.declared.chain.Chain.{Chain}
use Rattle.influxql_parser.specs.declared.piece.Piece.{Piece}
use Rattle.influxql_parser.specs.declared.piece.Piece.TheVariants as piece
use Rattle.influxql_parser.specs.declared.piece.Test.{Test}
use Rattle.influxql_parser.specs.Chains.{Stack, and_with, or_with, asked, finished, fresh, is_faulty, put, run, whole, with_piece}
use Rattle.influxql_parser.specs.DeletionTags.{deletion_atom_tags, deletion_both_tags, deletion_either_tags}
use Rattle.influxql_parser.specs.GrammarConditions.{Atom, Both, Either, Tested, Inner, OneAtom, And, OneBoth, Or, atom_pieces, both_pieces, either_pieces, tests_in, is_of_time, atom_has_time_in_or, both_has_time_in_or, either_has_time_in_or}
use Rattle.influxql_parser.proofs.ConditionLemmas.{Sides, Place, Here, both_with, either_with, advance, passed, finish, start, parse}

-- a comparison of time stands among pieces
abbrev timed_in : List Piece → Bool
timed_in ps = list_any is_of_time (tests_in ps)

or-assoc : (x y z : Bool) → (x || y) || z ≡ x || (y || z)
or-assoc true y z = refl
or-assoc false y z = refl

or-false : (x : Bool) → x || false ≡ x
or-false true = refl
or-false false = refl

pub timed-append : (ps qs : List Piece) → timed_in (ps ++ qs) ≡ timed_in ps || timed_in qs
timed-append [] qs = refl
timed-append (piece.Open ∷ ps) qs = timed-append ps qs
timed-append (piece.Close ∷ ps) qs = timed-append ps qs
timed-append (piece.Join j ∷ ps) qs = timed-append ps qs
timed-append (piece.Test t ∷ ps) qs = ap (λ (x : Bool). is_of_time t || x) (timed-append ps qs) ∙ sym (or-assoc (is_of_time t) (timed_in ps) (timed_in qs))

abbrev atom_tags : Option Atom → Option tags.Condition
atom_tags None = None
atom_tags (Some a) = Some (deletion_atom_tags a)

abbrev both_tags : Option Both → Option tags.Condition
both_tags None = None
both_tags (Some b) = Some (deletion_both_tags b)

abbrev either_tags : Option Either → Option tags.Condition
either_tags None = None
either_tags (Some e) = Some (deletion_either_tags e)

abbrev atom_timed : Option Atom → Bool
atom_timed None = false
atom_timed (Some a) = timed_in (atom_pieces a)

abbrev both_timed : Option Both → Bool
both_timed None = false
both_timed (Some b) = timed_in (both_pieces b)

abbrev either_timed : Option Either → Bool
either_timed None = false
either_timed (Some e) = timed_in (either_pieces e)

-- a comparison of time stands under an OR within the parentheses of a side
abbrev sides_faulty : Either → Bool
sides_faulty (OneBoth b) = both_has_time_in_or b
sides_faulty (Or e b) = sides_faulty e || both_has_time_in_or b

abbrev atom_faulty : Option Atom → Bool
atom_faulty None = false
atom_faulty (Some a) = atom_has_time_in_or a

abbrev both_faulty : Option Both → Bool
both_faulty None = false
both_faulty (Some b) = both_has_time_in_or b

abbrev either_faulty : Option Either → Bool
either_faulty None = false
either_faulty (Some e) = sides_faulty e

abbrev chain_with : Option tags.Condition → Option tags.Condition → Option tags.Condition → Bool → Bool → Chain
chain_with either before atom timed faulty = record { either = either; before = before; atom = atom; timed = timed; faulty = faulty }

abbrev pub chain_of : Option Either → Option Both → Option Atom → Chain
chain_of e b a = chain_with (either_tags e) (both_tags b) (atom_tags a) (either_timed e || (both_timed b || atom_timed a)) (either_faulty e || (both_faulty b || atom_faulty a))

abbrev pub stack_at : Place → Stack
stack_at (Here outer e b a) = (map (λ (sides : Sides). chain_of sides.0 sides.1 None) outer, chain_of e b a)

abbrev pub stacks_at : Option Place → Option Stack
stacks_at None = None
stacks_at (Some place) = Some (stack_at place)

both-tags : (b : Option Both) (a : Atom) → and_with (both_tags b) (deletion_atom_tags a) ≡ deletion_both_tags (both_with b a)
both-tags None a = refl
both-tags (Some b) a = refl

either-tags : (e : Option Either) (b : Option Both) (a : Atom) →
    or_with (either_tags e) (and_with (both_tags b) (deletion_atom_tags a)) ≡ deletion_either_tags (either_with e (both_with b a))
either-tags None b a = both-tags b a
either-tags (Some e) b a = ap (λ (x : tags.Condition). tags.Or (deletion_either_tags e) x) (both-tags b a)

both-timed : (b : Option Both) (a : Atom) → both_timed b || timed_in (atom_pieces a) ≡ timed_in (both_pieces (both_with b a))
both-timed None a = refl
both-timed (Some b) a = sym (timed-append (both_pieces b) (piece.Join join.And ∷ atom_pieces a))

either-timed : (e : Option Either) (b : Option Both) (a : Atom) →
    either_timed e || (both_timed b || timed_in (atom_pieces a)) ≡ timed_in (either_pieces (either_with e (both_with b a)))
either-timed None b a = both-timed b a
either-timed (Some e) b a =
    ap (λ (x : Bool). timed_in (either_pieces e) || x) (both-timed b a) ∙ sym (timed-append (either_pieces e) (piece.Join join.Or ∷ both_pieces (both_with b a)))

both-faulty : (b : Option Both) (a : Atom) → both_faulty b || atom_has_time_in_or a ≡ both_has_time_in_or (both_with b a)
both-faulty None a = refl
both-faulty (Some b) a = refl

sides-faulty : (e : Option Either) (b : Option Both) (a : Atom) →
    either_faulty e || (both_faulty b || atom_has_time_in_or a) ≡ sides_faulty (either_with e (both_with b a))
sides-faulty None b a = both-faulty b a
sides-faulty (Some e) b a = ap (λ (x : Bool). sides_faulty e || x) (both-faulty b a)

-- a comparison of time stands under an OR in the condition that a whole chain is
is-faulty : (e : Option Either) (b : Option Both) (a : Atom) → is_faulty (chain_of e b (Some a)) ≡ either_has_time_in_or (either_with e (both_with b a))
is-faulty None b a = both-faulty b a
is-faulty (Some e) b a = ap (λ (x : Bool). timed_in (either_pieces e) || x) (both-timed b a)

inner-timed : (c : Either) → timed_in (atom_pieces (Inner c)) ≡ timed_in (either_pieces c)
inner-timed c = timed-append (either_pieces c) (piece.Close ∷ []) ∙ or-false (timed_in (either_pieces c))

-- one more at the end of three
three : (x y z : Bool) → (x || (y || false)) || z ≡ x || (y || z)
three true y z = refl
three false true z = refl
three false false z = refl

two : (x y : Bool) → x || (y || false) ≡ x || y
two x y = ap (λ (t : Bool). x || t) (or-false y)

closed-at : (outer : List Sides) (e' : Option Either) (b' : Option Both) (e : Option Either) (b : Option Both) (a : Atom) →
    put (chain_of e' b' None) (or_with (either_tags e) (and_with (both_tags b) (deletion_atom_tags a))) (either_timed e || (both_timed b || timed_in (atom_pieces a))) (is_faulty (chain_of e b (Some a)))
    ≡ chain_of e' b' (Some (Inner (either_with e (both_with b a))))
closed-at outer e' b' e b a =
    let c = either_with e (both_with b a) in
    ap (λ (t : tags.Condition). put (chain_of e' b' None) t (either_timed e || (both_timed b || timed_in (atom_pieces a))) (is_faulty (chain_of e b (Some a)))) (either-tags e b a)
    ∙ ap (λ (x : Bool). put (chain_of e' b' None) (deletion_either_tags c) x (is_faulty (chain_of e b (Some a)))) (either-timed e b a ∙ sym (inner-timed c))
    ∙ ap (λ (x : Bool). put (chain_of e' b' None) (deletion_either_tags c) (timed_in (atom_pieces (Inner c))) x) (is-faulty e b a)
    ∙ ap (λ (x : Bool). chain_with (either_tags e') (both_tags b') (Some (deletion_either_tags c)) x ((either_faulty e' || (both_faulty b' || false)) || either_has_time_in_or c)) (three (either_timed e') (both_timed b') (timed_in (atom_pieces (Inner c))))
    ∙ ap (λ (x : Bool). chain_with (either_tags e') (both_tags b') (Some (deletion_either_tags c)) (either_timed e' || (both_timed b' || timed_in (atom_pieces (Inner c)))) x) (three (either_faulty e') (both_faulty b') (either_has_time_in_or c))

and-at : (e : Option Either) (b : Option Both) (a : Atom) →
    chain_with (either_tags e) (Some (and_with (both_tags b) (deletion_atom_tags a))) None (either_timed e || (both_timed b || timed_in (atom_pieces a))) (either_faulty e || (both_faulty b || atom_has_time_in_or a))
    ≡ chain_of e (Some (both_with b a)) None
and-at e b a =
    let both = both_with b a in
    ap (λ (t : tags.Condition). chain_with (either_tags e) (Some t) None (either_timed e || (both_timed b || timed_in (atom_pieces a))) (either_faulty e || (both_faulty b || atom_has_time_in_or a))) (both-tags b a)
    ∙ ap (λ (x : Bool). chain_with (either_tags e) (Some (deletion_both_tags both)) None (either_timed e || x) (either_faulty e || (both_faulty b || atom_has_time_in_or a))) (both-timed b a ∙ sym (or-false (timed_in (both_pieces both))))
    ∙ ap (λ (x : Bool). chain_with (either_tags e) (Some (deletion_both_tags both)) None (either_timed e || (timed_in (both_pieces both) || false)) (either_faulty e || x)) (both-faulty b a ∙ sym (or-false (both_has_time_in_or both)))

or-at : (e : Option Either) (b : Option Both) (a : Atom) →
    chain_with (Some (or_with (either_tags e) (and_with (both_tags b) (deletion_atom_tags a)))) None None (either_timed e || (both_timed b || timed_in (atom_pieces a))) (either_faulty e || (both_faulty b || atom_has_time_in_or a))
    ≡ chain_of (Some (either_with e (both_with b a))) None None
or-at e b a =
    let c = either_with e (both_with b a) in
    ap (λ (t : tags.Condition). chain_with (Some t) None None (either_timed e || (both_timed b || timed_in (atom_pieces a))) (either_faulty e || (both_faulty b || atom_has_time_in_or a))) (either-tags e b a)
    ∙ ap (λ (x : Bool). chain_with (Some (deletion_either_tags c)) None None x (either_faulty e || (both_faulty b || atom_has_time_in_or a))) (either-timed e b a ∙ sym (or-false (timed_in (either_pieces c))))
    ∙ ap (λ (x : Bool). chain_with (Some (deletion_either_tags c)) None None (timed_in (either_pieces c) || false) x) (sides-faulty e b a ∙ sym (or-false (sides_faulty c)))

test-at : (e : Option Either) (b : Option Both) (t : Test) →
    put (chain_of e b None) (deletion_atom_tags (Tested t)) (is_of_time t) false ≡ chain_of e b (Some (Tested t))
test-at e b t =
    ap (λ (x : Bool). chain_with (either_tags e) (both_tags b) (Some (deletion_atom_tags (Tested t))) x ((either_faulty e || (both_faulty b || false)) || false))
    (three (either_timed e) (both_timed b) (is_of_time t) ∙ ap (λ (x : Bool). either_timed e || (both_timed b || x)) (sym (or-false (is_of_time t))))
    ∙ ap (λ (x : Bool). chain_with (either_tags e) (both_tags b) (Some (deletion_atom_tags (Tested t))) (either_timed e || (both_timed b || (is_of_time t || false))) x) (or-false (either_faulty e || (both_faulty b || false)))

pub piece-at : (p : Place) (one : Piece) → with_piece (stack_at p) one ≡ stacks_at (advance p one)
piece-at (Here outer e b None) piece.Open = refl
piece-at (Here outer e b (Some a)) piece.Open = refl
piece-at (Here [] e b a) piece.Close = refl
piece-at (Here (sides ∷ outer) e b None) piece.Close = refl
piece-at (Here (sides ∷ outer) e b (Some a)) piece.Close =
    ap (λ (chain : Chain). Some (map (λ (s : Sides). chain_of s.0 s.1 None) outer, chain)) (closed-at outer sides.0 sides.1 e b a)
piece-at (Here outer e b None) (piece.Join join.And) = refl
piece-at (Here outer e b None) (piece.Join join.Or) = refl
piece-at (Here outer e b (Some a)) (piece.Join join.And) =
    ap (λ (chain : Chain). Some (map (λ (s : Sides). chain_of s.0 s.1 None) outer, chain)) (and-at e b a)
piece-at (Here outer e b (Some a)) (piece.Join join.Or) =
    ap (λ (chain : Chain). Some (map (λ (s : Sides). chain_of s.0 s.1 None) outer, chain)) (or-at e b a)
piece-at (Here outer e b None) (piece.Test t) =
    ap (λ (chain : Chain). Some (map (λ (s : Sides). chain_of s.0 s.1 None) outer, chain)) (test-at e b t)
piece-at (Here outer e b (Some a)) (piece.Test t) = refl

pub run-at : (ps : List Piece) (o : Option Place) → run (stacks_at o) ps ≡ stacks_at (passed o ps)
run-at [] o = refl
run-at (p ∷ ps) None = run-at ps None
run-at (p ∷ ps) (Some place) = ap (λ (s : Option Stack). run s ps) (piece-at place p) ∙ run-at ps (advance place p)

-- what a condition asks
abbrev pub asked_of : Either → Asked
asked_of c = record { tags = deletion_either_tags c; faulty = either_has_time_in_or c }

abbrev pub asks : Option Either → Option Asked
asks None = None
asks (Some c) = Some (asked_of c)

abbrev asked_with : tags.Condition → Bool → Asked
asked_with t x = record { tags = t; faulty = x }

finished-at : (p : Place) → finished (stack_at p) ≡ asks (finish p)
finished-at (Here [] e b None) = refl
finished-at (Here [] e b (Some a)) =
    ap (λ (t : tags.Condition). Some (asked_with t (is_faulty (chain_of e b (Some a))))) (either-tags e b a)
    ∙ ap (λ (x : Bool). Some (asked_with (deletion_either_tags (either_with e (both_with b a))) x)) (is-faulty e b a)
finished-at (Here (sides ∷ outer) e b a) = refl

-- what the pieces ask is what the condition asks that is read back from them
pub asked-by : (ps : List Piece) → asked ps ≡ asks (parse ps)
asked-by ps = ap (λ (s : Option Stack). option_and_then finished s) (run-at ps (Some start)) ∙ by (passed (Some start) ps)
  where
    by : (o : Option Place) → option_and_then finished (stacks_at o) ≡ asks (option_and_then finish o)
    by None = refl
    by (Some place) = finished-at place
