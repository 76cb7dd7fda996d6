-- A condition is read back from its parts, and met as they are passed.
use Rattle.std.proofs.Common.{◌≡◌, ℕ, suc, ◌+◌, ◌≤◌, Bool, true, false, cond, not, ◌&&◌, ◌||◌, List, [], ◌∷◌, ◌++◌, map, reverse, Option, Some, None, refl, sym, ap, subst, ◌∙◌}
use Rattle.std.proofs.lemmas.List.{append-nil, append_assoc, reverse-append}
use Rattle.point_model.specs.Conditions.{Condition, True, Eq, Ne, And, Or, meets}
use Rattle.point_model.specs.Flat.{First, IsReading, Reading, Second, Side, Walk, answered, begun, closed, condition_in, condition_of, decides, joined, left_open, next_of, open_of, or_true, parts_before, parts_of, parts_read, passed, read_from, step, unread, walk, with_part}
use Rattle.point_model.specs.declared.part.Join.{Join}
use Rattle.point_model.specs.declared.part.Join.TheVariants as join
use Rattle.point_model.specs.declared.part.Part.{Part}
use Rattle.point_model.specs.declared.part.Part.TheVariants as part
use Rattle.point_model.specs.declared.part.TagTest.{TagTest}
use Rattle.point_model.specs.declared.part.TagTest.TheVariants as test

abbrev pub Parts : Type 0
Parts = List (Option Join × Part)

-- the parts of a condition close a side
pub read-parts : (c : Condition) (of : Option Join) (sides : List Side) (whole : Option Condition) (rest : List (Option Join × Part))
    → read_from (record { sides = sides; whole = whole }) (parts_of of c ++ rest) ≡ read_from (closed c sides) rest
read-parts True of sides whole rest = refl
read-parts (Eq key text) of sides whole rest = refl
read-parts (Ne key text) of sides whole rest = refl
read-parts (And a b) of sides whole rest =
    ap (λ (ps : Parts). read_from (record { sides = First join.And ∷ sides; whole = None }) ps) (append_assoc (parts_of None a) (parts_of (Some join.And) b) rest)
    ∙ read-parts a None (First join.And ∷ sides) None (parts_of (Some join.And) b ++ rest)
    ∙ read-parts b (Some join.And) (Second join.And a ∷ sides) None rest
read-parts (Or a b) of sides whole rest =
    ap (λ (ps : Parts). read_from (record { sides = First join.Or ∷ sides; whole = None }) ps) (append_assoc (parts_of None a) (parts_of (Some join.Or) b) rest)
    ∙ read-parts a None (First join.Or ∷ sides) None (parts_of (Some join.Or) b ++ rest)
    ∙ read-parts b (Some join.Or) (Second join.Or a ∷ sides) None rest

-- a condition is read from its parts
pub in-parts : (c : Condition) → condition_in (parts_of None c) ≡ c
in-parts c =
    ap (λ (ps : Parts). or_true (read_from unread ps).whole) (sym (append-nil (parts_of None c)))
    ∙ ap (λ (r : Reading). or_true r.whole) (read-parts c None [] None [])

pub read_from-append : (reading : Reading) (first second : Parts) → read_from reading (first ++ second) ≡ read_from (read_from reading first) second
read_from-append reading [] second = refl
read_from-append reading (one ∷ first) second = read_from-append (with_part one.1 reading) first second

-- the answer behind a side, which counts only where it isn't decided
abbrev pub with_answer : Option Join → Bool → Bool → Bool
with_answer None met answer = answer
with_answer (Some join.And) met answer = met && answer
with_answer (Some join.Or) met answer = met || answer

decided : (of : Option Join) (met answer : Bool) → decides of met ≡ true → with_answer of met answer ≡ met
decided None met answer e = absurd (cc)
decided (Some join.And) true answer e = absurd (cc)
decided (Some join.And) false answer e = refl
decided (Some join.Or) true answer e = refl
decided (Some join.Or) false answer e = absurd (cc)

undecided : (of : Option Join) (met answer : Bool) → decides of met ≡ false → with_answer of met answer ≡ answer
undecided None met answer e = refl
undecided (Some join.And) true answer e = refl
undecided (Some join.And) false answer e = absurd (cc)
undecided (Some join.Or) true answer e = absurd (cc)
undecided (Some join.Or) false answer e = refl

module _ (series : List ℕ) where
  -- a side that counts no more is passed
  pub walk-passed : (c : Condition) (of : Option Join) (more : ℕ) (met : Bool) (rest : Parts) → walk series (met, suc more) (parts_of of c ++ rest) ≡ walk series (met, more) rest
  walk-passed True of more met rest = refl
  walk-passed (Eq key text) of more met rest = refl
  walk-passed (Ne key text) of more met rest = refl
  walk-passed (And a b) of more met rest =
      ap (λ (ps : Parts). walk series (met, suc (suc more)) ps) (append_assoc (parts_of None a) (parts_of (Some join.And) b) rest)
      ∙ walk-passed a None (suc more) met (parts_of (Some join.And) b ++ rest)
      ∙ walk-passed b (Some join.And) more met rest
  walk-passed (Or a b) of more met rest =
      ap (λ (ps : Parts). walk series (met, suc (suc more)) ps) (append_assoc (parts_of None a) (parts_of (Some join.Or) b) rest)
      ∙ walk-passed a None (suc more) met (parts_of (Some join.Or) b ++ rest)
      ∙ walk-passed b (Some join.Or) more met rest

  -- a side that counts is answered
  pub walk-counted : (c : Condition) (of : Option Join) (met : Bool) (rest : Parts)
      → walk series (met, 0) (parts_of of c ++ rest) ≡ walk series (with_answer of met (meets c series), 0) rest
  walk-counted (True) of met rest = by (decides of met) refl
    where
      by : (b : Bool) → decides of met ≡ b → walk series (cond b (met, 0) (meets (True) series, 0)) rest ≡ walk series (with_answer of met (meets (True) series), 0) rest
      by true e = ap (λ (a : Bool). walk series (a, 0) rest) (sym (decided of met (meets (True) series) e))
      by false e = ap (λ (a : Bool). walk series (a, 0) rest) (sym (undecided of met (meets (True) series) e))
  walk-counted (Eq key text) of met rest = by (decides of met) refl
    where
      by : (b : Bool) → decides of met ≡ b → walk series (cond b (met, 0) (meets (Eq key text) series, 0)) rest ≡ walk series (with_answer of met (meets (Eq key text) series), 0) rest
      by true e = ap (λ (a : Bool). walk series (a, 0) rest) (sym (decided of met (meets (Eq key text) series) e))
      by false e = ap (λ (a : Bool). walk series (a, 0) rest) (sym (undecided of met (meets (Eq key text) series) e))
  walk-counted (Ne key text) of met rest = by (decides of met) refl
    where
      by : (b : Bool) → decides of met ≡ b → walk series (cond b (met, 0) (meets (Ne key text) series, 0)) rest ≡ walk series (with_answer of met (meets (Ne key text) series), 0) rest
      by true e = ap (λ (a : Bool). walk series (a, 0) rest) (sym (decided of met (meets (Ne key text) series) e))
      by false e = ap (λ (a : Bool). walk series (a, 0) rest) (sym (undecided of met (meets (Ne key text) series) e))
  walk-counted (And a b) of met rest =
      by (decides of met) refl (walk-counted a None met (parts_of (Some join.And) b ++ rest)) (walk-counted b (Some join.And) (meets a series) rest)
    where
      apart : (at : Bool × ℕ) → walk series at ((parts_of None a ++ parts_of (Some join.And) b) ++ rest) ≡ walk series at (parts_of None a ++ (parts_of (Some join.And) b ++ rest))
      apart at = ap (λ (ps : Parts). walk series at ps) (append_assoc (parts_of None a) (parts_of (Some join.And) b) rest)

      by : (d : Bool) → decides of met ≡ d
          → walk series (met, 0) (parts_of None a ++ (parts_of (Some join.And) b ++ rest)) ≡ walk series (meets a series, 0) (parts_of (Some join.And) b ++ rest)
          → walk series (meets a series, 0) (parts_of (Some join.And) b ++ rest) ≡ walk series (with_answer (Some join.And) (meets a series) (meets b series), 0) rest
          → walk series (cond d (met, 2) (met, 0)) ((parts_of None a ++ parts_of (Some join.And) b) ++ rest) ≡ walk series (with_answer of met (meets (And a b) series), 0) rest
      by true e first second =
          apart (met, 2)
          ∙ walk-passed a None 1 met (parts_of (Some join.And) b ++ rest)
          ∙ walk-passed b (Some join.And) 0 met rest
          ∙ ap (λ (t : Bool). walk series (t, 0) rest) (sym (decided of met (meets (And a b) series) e))
      by false e first second =
          apart (met, 0)
          ∙ first
          ∙ second
          ∙ ap (λ (t : Bool). walk series (t, 0) rest) (sym (undecided of met (meets (And a b) series) e))
  walk-counted (Or a b) of met rest =
      by (decides of met) refl (walk-counted a None met (parts_of (Some join.Or) b ++ rest)) (walk-counted b (Some join.Or) (meets a series) rest)
    where
      apart : (at : Bool × ℕ) → walk series at ((parts_of None a ++ parts_of (Some join.Or) b) ++ rest) ≡ walk series at (parts_of None a ++ (parts_of (Some join.Or) b ++ rest))
      apart at = ap (λ (ps : Parts). walk series at ps) (append_assoc (parts_of None a) (parts_of (Some join.Or) b) rest)

      by : (d : Bool) → decides of met ≡ d
          → walk series (met, 0) (parts_of None a ++ (parts_of (Some join.Or) b ++ rest)) ≡ walk series (meets a series, 0) (parts_of (Some join.Or) b ++ rest)
          → walk series (meets a series, 0) (parts_of (Some join.Or) b ++ rest) ≡ walk series (with_answer (Some join.Or) (meets a series) (meets b series), 0) rest
          → walk series (cond d (met, 2) (met, 0)) ((parts_of None a ++ parts_of (Some join.Or) b) ++ rest) ≡ walk series (with_answer of met (meets (Or a b) series), 0) rest
      by true e first second =
          apart (met, 2)
          ∙ walk-passed a None 1 met (parts_of (Some join.Or) b ++ rest)
          ∙ walk-passed b (Some join.Or) 0 met rest
          ∙ ap (λ (t : Bool). walk series (t, 0) rest) (sym (decided of met (meets (Or a b) series) e))
      by false e first second =
          apart (met, 0)
          ∙ first
          ∙ second
          ∙ ap (λ (t : Bool). walk series (t, 0) rest) (sym (undecided of met (meets (Or a b) series) e))

  -- a condition is met as its parts are passed
  pub walk-met : (c : Condition) → walk series (true, 0) (parts_of None c) ≡ (meets c series, 0)
  walk-met c = ap (λ (ps : Parts). walk series (true, 0) ps) (sym (append-nil (parts_of None c))) ∙ walk-counted c None true []

  pub walk-append : (at : Bool × ℕ) (first second : Parts) → walk series at (first ++ second) ≡ walk series (walk series at first) second
  walk-append at [] second = refl
  walk-append at (part ∷ first) second = walk-append (step series at part) first second

-- what is read closes a side
pub parts-closed : (c : Condition) (sides : List Side) → parts_before sides ++ parts_of (next_of sides) c ≡ parts_read (closed c sides)
parts-closed c [] = refl
parts-closed c (First join ∷ sides) = append_assoc (parts_before sides) ((next_of sides, part.Join join) ∷ []) (parts_of None c)
parts-closed c (Second join.And first ∷ sides) =
    append_assoc (parts_before sides) ((next_of sides, part.Join join.And) ∷ parts_of None first) (parts_of (Some join.And) c) ∙ parts-closed (And first c) sides
parts-closed c (Second join.Or first ∷ sides) =
    append_assoc (parts_before sides) ((next_of sides, part.Join join.Or) ∷ parts_of None first) (parts_of (Some join.Or) c) ∙ parts-closed (Or first c) sides

-- which sides are open then
pub open-closed : (c : Condition) (sides : List Side) → map open_of (closed c sides).sides ≡ left_open (map open_of sides)
open-closed c [] = refl
open-closed c (First join ∷ sides) = refl
open-closed c (Second join first ∷ sides) = open-closed (joined join first c) sides

pub next-closed : (c : Condition) (sides : List Side) → next_of (closed c sides).sides ≡ begun (map open_of sides)
next-closed c [] = refl
next-closed c (First join ∷ sides) = refl
next-closed c (Second join first ∷ sides) = next-closed (joined join first c) sides

-- the first part gets another place
abbrev pub placed : Option Join → Parts → Parts
placed of [] = []
placed of (first ∷ parts) = (of, first.1) ∷ parts

abbrev pub placed_if : Bool → Option Join → Parts → Parts
placed_if true of parts = placed of parts
placed_if false of parts = parts

pub parts-placed : (of : Option Join) (c : Condition) → placed of (parts_of None c) ≡ parts_of of c
parts-placed of True = refl
parts-placed of (Eq key text) = refl
parts-placed of (Ne key text) = refl
parts-placed of (And a b) = refl
parts-placed of (Or a b) = refl

-- one part more is put
pub put-next : (first : Bool) (of own side : Option Join) (part : Part) (out more rest all : Parts) → more ≡ out ++ (side, part) ∷ [] → side ≡ cond first of own
    → out ++ placed_if first of ((own, part) ∷ rest) ≡ all → more ++ placed_if false of rest ≡ all
put-next true of own side part out more rest all pushed is before =
    ap (λ (ps : Parts). ps ++ rest) (pushed ∙ ap (λ (o : Option Join). out ++ (o, part) ∷ []) is) ∙ append_assoc out ((of, part) ∷ []) rest ∙ before
put-next false of own side part out more rest all pushed is before =
    ap (λ (ps : Parts). ps ++ rest) (pushed ∙ ap (λ (o : Option Join). out ++ (o, part) ∷ []) is) ∙ append_assoc out ((own, part) ∷ []) rest ∙ before

-- a list of the parts of a condition is read back
pub held-parts : (c : Condition) (parts : Parts) → parts ≡ parts_of None c → parts_of None (condition_in parts) ≡ parts
held-parts c parts is = ap (λ (ps : Parts). parts_of None (condition_in ps)) is ∙ ap (parts_of None) (in-parts c) ∙ sym is

pub told-parts : (c : Condition) (parts : Parts) → parts ≡ parts_of None c → condition_in parts ≡ c
told-parts c parts is = ap condition_in is ∙ in-parts c

-- a join before its two sides
pub joined-parts : (j : Join) (a b : Condition) → ((None, part.Join j) ∷ parts_of None a) ++ parts_of (Some j) b ≡ parts_of None (joined j a b)
joined-parts join.And a b = refl
joined-parts join.Or a b = refl

pub put-sides : (j : Join) (a b : Condition) (room first both all : Parts) → room ≡ [] → first ≡ room ++ (None, part.Join j) ∷ [] → both ≡ first ++ parts_of None a → all ≡ both ++ parts_of (Some j) b
    → all ≡ parts_of None (joined j a b)
put-sides j a b room first both all empty one two three =
    three
    ∙ ap (λ (ps : Parts). ps ++ parts_of (Some j) b) (two ∙ ap (λ (ps : Parts). ps ++ parts_of None a) (one ∙ ap (λ (ps : Parts). ps ++ (None, part.Join j) ∷ []) empty))
    ∙ joined-parts j a b

pub met-at-end : (c : Condition) (series : List ℕ) (items left : Parts) (met : Bool) (passing : ℕ) → items ≡ parts_of None c → left ≡ [] → walk series (met, passing) left ≡ walk series (true, 0) items
    → met ≡ meets c series
met-at-end c series items left met passing is end answer =
    ap (λ (w : Bool × ℕ). w.0) (ap (λ (ps : Parts). walk series (met, passing) ps) (sym end) ∙ answer ∙ ap (λ (ps : Parts). walk series (true, 0) ps) is ∙ walk-met series c)

-- one part more is read
read-more : (parts : Parts) (part : Option Join × Part) → read_from unread (parts ++ part ∷ []) ≡ with_part part.1 (read_from unread parts)
read-more parts part = read_from-append unread parts (part ∷ [])

pub read-next : (parts more : Parts) (part : Option Join × Part) → more ≡ parts ++ part ∷ [] → read_from unread more ≡ with_part part.1 (read_from unread parts)
read-next parts more part pushed = ap (read_from unread) pushed ∙ read-more parts part

pub turned : (side : Option Join) (sides more : List (Option Join)) → more ≡ sides ++ side ∷ [] → reverse more ≡ side ∷ reverse sides
turned side sides more pushed = ap (λ (os : List (Option Join)). reverse os) pushed ∙ reverse-append sides (side ∷ [])

-- a join is read
pub reading-join : (j : Join) (parts more : Parts) (sides others : List (Option Join)) (next : Option Join) → IsReading (read_from unread parts) parts sides next
    → more ≡ parts ++ (next, part.Join j) ∷ [] → others ≡ sides ++ Some j ∷ [] → IsReading (read_from unread more) more others None
reading-join j parts more sides others next is pushed opened =
    let was = read_from unread parts in
    subst (λ (r : Reading). IsReading r more others None) (sym (read-next parts more (next, part.Join j) pushed))
    record {
      part = refl;
      read = pushed ∙ ap (λ (ps : Parts). ps ++ (next, part.Join j) ∷ []) is.read ∙ ap (λ (o : Option Join). parts_before was.sides ++ (o, part.Join j) ∷ []) is.begins;
      sides = turned (Some j) sides others opened ∙ ap (λ (os : List (Option Join)). Some j ∷ os) is.sides;
      begins = refl;
    }

one-part : (t : TagTest) (of : Option Join) → (of, part.Test t) ∷ [] ≡ parts_of of (condition_of t)
one-part test.True of = refl
one-part (test.Eq key text) of = refl
one-part (test.Ne key text) of = refl

-- where no side is open any more the condition is whole
pub closed-whole : (c : Condition) (sides : List Side) → begun (map open_of sides) ≡ None → (whole : Condition) × (closed c sides ≡ record { sides = []; whole = Some whole })
closed-whole c [] none = (c, refl)
closed-whole c (First join ∷ sides) none = absurd (cc)
closed-whole c (Second join first ∷ sides) none = closed-whole (joined join first c) sides none

pub closed-part : (c : Condition) (sides : List Side) (j : Join) → begun (map open_of sides) ≡ Some j → (closed c sides).whole ≡ None
closed-part c [] j some = absurd (cc)
closed-part c (First join ∷ sides) j some = refl
closed-part c (Second join first ∷ sides) j some = closed-part (joined join first c) sides j some

-- a test is read, and closes sides
module _ (t : TagTest) (parts more : Parts) (sides others : List (Option Join)) (next : Option Join) (is : IsReading (read_from unread parts) parts sides next)
    (pushed : more ≡ parts ++ (next, part.Test t) ∷ []) (left : reverse others ≡ left_open (reverse sides)) where
  abbrev was : List Side
  was = (read_from unread parts).sides

  pub test-read : read_from unread more ≡ closed (condition_of t) was
  test-read = read-next parts more (next, part.Test t) pushed

  test-parts : more ≡ parts_read (closed (condition_of t) was)
  test-parts =
      pushed
      ∙ ap (λ (ps : Parts). ps ++ (next, part.Test t) ∷ []) is.read
      ∙ ap (λ (o : Option Join). parts_before was ++ (o, part.Test t) ∷ []) is.begins
      ∙ ap (λ (ps : Parts). parts_before was ++ ps) (one-part t (next_of was))
      ∙ parts-closed (condition_of t) was

  pub test-whole : (now : Option Join) → now ≡ begun (reverse sides) → now ≡ None → (whole : Condition) × (closed (condition_of t) was ≡ record { sides = []; whole = Some whole }) × (more ≡ parts_of None whole)
  test-whole now begins none =
      let w = closed-whole (condition_of t) was (ap begun (sym is.sides) ∙ sym begins ∙ none) in
      (w.0, w.1, test-parts ∙ ap parts_read w.1)

  pub test-part : (j : Join) (now : Option Join) → now ≡ begun (reverse sides) → now ≡ Some j → (closed (condition_of t) was).whole ≡ None
  test-part j now begins some = closed-part (condition_of t) was j (ap begun (sym is.sides) ∙ sym begins ∙ some)

  pub reading-test : (j : Join) (now : Option Join) → now ≡ begun (reverse sides) → now ≡ Some j → IsReading (read_from unread more) more others (Some j)
  reading-test j now begins some =
      let open_part = test-part j now begins some in
      subst (λ (r : Reading). IsReading r more others (Some j)) (sym test-read)
      record {
        part = open_part;
        read = test-parts ∙ still (closed (condition_of t) was) open_part;
        sides = left ∙ ap left_open is.sides ∙ sym (open-closed (condition_of t) was);
        begins = sym some ∙ begins ∙ ap begun is.sides ∙ sym (next-closed (condition_of t) was);
      }
    where
      still : (r : Reading) → r.whole ≡ None → parts_read r ≡ parts_before r.sides
      still r e = by r.sides r.whole e
        where
          by : (sides : List Side) (o : Option Condition) → o ≡ None → parts_read (record { sides = sides; whole = o }) ≡ parts_before sides
          by sides None e = refl
          by sides (Some c) e = absurd (cc)
