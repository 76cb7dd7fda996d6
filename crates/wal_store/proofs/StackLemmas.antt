-- Sides are opened and closed while a condition is read.
use Rattle.std.proofs.Common.{◌≡◌, ◌≢◌, ℕ, ◌+◌, ◌≤◌, List, [], ◌∷◌, ◌++◌, length, Some, None, refl, sym, ap, subst, ◌∙◌, arith}
use Rattle.std.specs.List.{AllByRecursion}
use Rattle.std.proofs.lemmas.List.{append_assoc}
use Rattle.point_model.specs.Conditions.{Condition, True, Eq, Ne, And, Or, nesting, larger}
use Rattle.point_model.specs.Flat.{Side, First, Second, closed}
use Rattle.point_model.specs.Flat.{joined as join_of}
use Rattle.point_model.specs.declared.part.Join.{Join}
use Rattle.point_model.specs.declared.part.Join.TheVariants as join
use Rattle.wal_store.specs.Form.{text_bytes}
use Rattle.wal_store.specs.Conditions.{condition_bytes, AreComparisons, IsComparison, IsCondition}
use Rattle.wal_store.specs.Stack.{byte_of, Completes, AreSides, Closes, Awaits, IsLeaf}
use Rattle.wal_store.proofs.ConditionLemmas.{Begun, begun, same_pair, comparisons-True, comparisons-Eq, comparisons-Ne, nesting-True, nesting-Eq, nesting-Ne, by_cases, head_is, bytes-True, bytes-Eq, bytes-Ne, bytes-And, bytes-Or, nesting-And, nesting-Or, larger_first, larger_second, larger_room, sides_of_and, sides_of_or, and_of_sides, or_of_sides}

some_same : (a b : Condition) → Some a ≡ Some b → a ≡ b
some_same a b e = cc

-- ---- joins

join_bytes : (j : Join) (first second : Condition) → condition_bytes (join_of j first second) ≡ byte_of j ∷ (condition_bytes first ++ condition_bytes second)
join_bytes join.And first second = bytes-And first second
join_bytes join.Or first second = bytes-Or first second

pub join_nesting : (j : Join) (first second : Condition) → nesting (join_of j first second) ≡ larger (nesting first) (nesting second) + 1
join_nesting join.And first second = nesting-And first second
join_nesting join.Or first second = nesting-Or first second

pub join_sides : (j : Join) (first second : Condition) → AreComparisons (join_of j first second) → AreComparisons first × AreComparisons second
join_sides join.And first second all = sides_of_and first second all
join_sides join.Or first second all = sides_of_or first second all

pub join_all : (j : Join) (first second : Condition) → AreComparisons first → AreComparisons second → AreComparisons (join_of j first second)
join_all join.And first second one other = and_of_sides first second one other
join_all join.Or first second one other = or_of_sides first second one other

-- a condition that begins with the byte of a join is that join
abbrev Front : Join → List ℕ → Condition → Type 0
Front j behind part = (tail : List ℕ) → byte_of j ∷ behind ≡ condition_bytes part ++ tail
    → (first : Condition) × (second : Condition) × (part ≡ join_of j first second) × (behind ≡ (condition_bytes first ++ condition_bytes second) ++ tail)

pub front : (j : Join) (behind : List ℕ) (part : Condition) → Front j behind part
front join.And behind =
    by_cases (Front join.And behind)
    (λ tail is. let h = head_is 3 behind tail (condition_bytes True) 0 [] bytes-True is in absurd (omega (arith, h.0)))
    (λ key text tail is. let h = head_is 3 behind tail (condition_bytes (Eq key text)) 1 (text_bytes key ++ text_bytes text) (bytes-Eq key text) is in absurd (omega (arith, h.0)))
    (λ key text tail is. let h = head_is 3 behind tail (condition_bytes (Ne key text)) 2 (text_bytes key ++ text_bytes text) (bytes-Ne key text) is in absurd (omega (arith, h.0)))
    (λ first second tail is. let h = head_is 3 behind tail (condition_bytes (And first second)) 3 (condition_bytes first ++ condition_bytes second) (bytes-And first second) is in (first, second, refl, h.1))
    (λ first second tail is. let h = head_is 3 behind tail (condition_bytes (Or first second)) 4 (condition_bytes first ++ condition_bytes second) (bytes-Or first second) is in absurd (omega (arith, h.0)))
front join.Or behind =
    by_cases (Front join.Or behind)
    (λ tail is. let h = head_is 4 behind tail (condition_bytes True) 0 [] bytes-True is in absurd (omega (arith, h.0)))
    (λ key text tail is. let h = head_is 4 behind tail (condition_bytes (Eq key text)) 1 (text_bytes key ++ text_bytes text) (bytes-Eq key text) is in absurd (omega (arith, h.0)))
    (λ key text tail is. let h = head_is 4 behind tail (condition_bytes (Ne key text)) 2 (text_bytes key ++ text_bytes text) (bytes-Ne key text) is in absurd (omega (arith, h.0)))
    (λ first second tail is. let h = head_is 4 behind tail (condition_bytes (And first second)) 3 (condition_bytes first ++ condition_bytes second) (bytes-And first second) is in absurd (omega (arith, h.0)))
    (λ first second tail is. let h = head_is 4 behind tail (condition_bytes (Or first second)) 4 (condition_bytes first ++ condition_bytes second) (bytes-Or first second) is in (first, second, refl, h.1))

-- ---- what a whole condition says of its part

pub part_all : (sides : List Side) (part whole : Condition) (more : List ℕ) → Completes sides part whole more → AreComparisons whole → AreComparisons part
part_all [] part whole more is all = subst AreComparisons is.0 all
part_all (First j ∷ sides) part whole more is all = (join_sides j part is.0 (part_all sides (join_of j part is.0) whole is.1 is.3 all)).0
part_all (Second j first ∷ sides) part whole more is all = (join_sides j first part (part_all sides (join_of j first part) whole more is all)).1

pub part_nested : (sides : List Side) (part whole : Condition) (more : List ℕ) → Completes sides part whole more → nesting part + length sides ≤ nesting whole
part_nested [] part whole more is = omega (arith, ap nesting is.0)
part_nested (First j ∷ sides) part whole more is =
    omega (arith, part_nested sides (join_of j part is.0) whole is.1 is.3, join_nesting j part is.0, larger_first (nesting part) (nesting is.0))
part_nested (Second j first ∷ sides) part whole more is =
    omega (arith, part_nested sides (join_of j first part) whole more is, join_nesting j first part, larger_second (nesting first) (nesting part))

-- ---- reading

-- What was read up to here: with a part at the innermost side, and what completes it, the bytes are a condition.
pub record Reading (most : ℕ) (bytes : List ℕ) (sides : List Side) (rest : List ℕ) : Type 0 where
  pub only : (whole : Condition) (others : List ℕ) → IsCondition most whole → bytes ≡ condition_bytes whole ++ others
      → (part : Condition) × (more : List ℕ) × (rest ≡ condition_bytes part ++ (more ++ others)) × Completes sides part whole more
  pub back : (part whole : Condition) (more others : List ℕ) → rest ≡ condition_bytes part ++ (more ++ others) → Completes sides part whole more → bytes ≡ condition_bytes whole ++ others
  pub are : AreSides most sides

pub reading_none : (most : ℕ) (bytes : List ℕ) → Reading most bytes [] bytes
reading_none most bytes = record {
  only = λ whole others is same. (whole, [], same, (refl, refl));
  back = λ part whole more others is completes.
      is ∙ ap (λ (l : List ℕ). condition_bytes part ++ (l ++ others)) completes.1 ∙ ap (λ (c : Condition). condition_bytes c ++ others) (sym completes.0);
  are = tt;
}

-- a join opens its first side
pub reading_join : (most : ℕ) (bytes rest behind : List ℕ) (sides : List Side) (j : Join) → Reading most bytes sides rest → rest ≡ byte_of j ∷ behind → length sides + 1 ≤ most → Reading most bytes (First j ∷ sides) behind
reading_join most bytes rest behind sides j reading is room = record {
  only = λ whole others ok same.
      let before = reading.only whole others ok same in
      let split = front j behind before.0 (before.1 ++ others) (sym is ∙ before.2) in (
        split.0,
        condition_bytes split.1 ++ before.1,
        split.3 ∙ append_assoc (condition_bytes split.0) (condition_bytes split.1) (before.1 ++ others) ∙ ap (λ (l : List ℕ). condition_bytes split.0 ++ l) (sym (append_assoc (condition_bytes split.1) before.1 others)),
        (split.1, before.1, refl, subst (λ (c : Condition). Completes sides c whole before.1) split.2 before.3),
      );
  back = λ part whole more others same completes.
      reading.back (join_of j part completes.0) whole completes.1 others
      (is ∙ ap (λ (l : List ℕ). byte_of j ∷ l) (same ∙ ap (λ (l : List ℕ). condition_bytes part ++ (l ++ others)) completes.2
      ∙ ap (λ (l : List ℕ). condition_bytes part ++ l) (append_assoc (condition_bytes completes.0) completes.1 others)
      ∙ sym (append_assoc (condition_bytes part) (condition_bytes completes.0) (completes.1 ++ others)))
      ∙ ap (λ (l : List ℕ). l ++ (completes.1 ++ others)) (sym (join_bytes j part completes.0)))
      completes.3;
  are = (room, reading.are);
}

-- no more joins may be open
pub too_deep : (most : ℕ) (bytes rest behind : List ℕ) (sides : List Side) (j : Join) → Reading most bytes sides rest → rest ≡ byte_of j ∷ behind → most ≤ length sides → (whole : Condition) (others : List ℕ) → IsCondition most whole → bytes ≢ condition_bytes whole ++ others
too_deep most bytes rest behind sides j reading is full whole others ok same =
    let before = reading.only whole others ok same in
    let split = front j behind before.0 (before.1 ++ others) (sym is ∙ before.2) in
    omega (arith, full, ok.nested, part_nested sides before.0 whole before.1 before.3, ap nesting split.2, join_nesting j split.0 split.1)

-- no condition begins what is left
pub no_part : (most : ℕ) (bytes rest : List ℕ) (sides : List Side) → Reading most bytes sides rest → ((part : Condition) (others : List ℕ) → AreComparisons part → rest ≢ condition_bytes part ++ others)
    → (whole : Condition) (others : List ℕ) → IsCondition most whole → bytes ≢ condition_bytes whole ++ others
no_part most bytes rest sides reading none whole others ok same =
    let before = reading.only whole others ok same in
    none before.0 (before.1 ++ others) (part_all sides before.0 whole before.1 before.3 ok.comparisons) before.2

-- the part that was read makes the whole
pub read_whole : (most : ℕ) (bytes rest behind : List ℕ) (sides : List Side) (part whole : Condition) → Reading most bytes sides rest → IsLeaf part rest behind → Closes most sides part whole → bytes ≡ condition_bytes whole ++ behind
read_whole most bytes rest behind sides part whole reading leaf closes = reading.back part whole [] behind leaf.whole closes.closes

-- the part that was read leaves a side to be read
pub reading_part : (most : ℕ) (bytes rest behind : List ℕ) (sides next : List Side) (part : Condition) → Reading most bytes sides rest → IsLeaf part rest behind → Awaits most sides part next → Reading most bytes next behind
reading_part most bytes rest behind sides next part reading leaf awaits = record {
  only = λ whole others ok same.
      let before = reading.only whole others ok same in
      let here = leaf.only before.0 (before.1 ++ others) (part_all sides before.0 whole before.1 before.3 ok.comparisons) before.2 in
      let after = awaits.only whole before.1 (subst (λ (c : Condition). Completes sides c whole before.1) here.0 before.3) in
      (after.0, after.1, sym here.1 ∙ ap (λ (l : List ℕ). l ++ others) after.2 ∙ append_assoc (condition_bytes after.0) after.1 others, after.3);
  back = λ second whole more others same completes.
      reading.back part whole (condition_bytes second ++ more) others
      (leaf.whole ∙ ap (λ (l : List ℕ). condition_bytes part ++ l) (same ∙ sym (append_assoc (condition_bytes second) more others)))
      (awaits.back second whole more completes);
  are = awaits.are;
}

-- what a part asks for that has no sides
pub leaf_room : (most : ℕ) (sides : List Side) (bytes rest : List ℕ) (part : Condition) → AreSides most sides → IsLeaf part bytes rest → nesting part + length sides ≤ most
leaf_room most [] bytes rest part are leaf = omega (arith, leaf.flat)
leaf_room most (First j ∷ sides) bytes rest part are leaf = omega (arith, leaf.flat, are.0)
leaf_room most (Second j first ∷ sides) bytes rest part are leaf = omega (arith, leaf.flat, are.1)

-- ---- closing

-- the part makes the whole
pub closes : (most : ℕ) (sides : List Side) (part whole : Condition) → AreSides most sides → AreComparisons part → nesting part + length sides ≤ most → (closed part sides).whole ≡ Some whole → Closes most sides part whole
closes most [] part whole are all nested is =
    let same : part ≡ whole = some_same part whole is in
    record { closes = (sym same, refl); only = λ other more completes. (completes.0 ∙ same, completes.1); is = subst (IsCondition most) same record { comparisons = all; nested = omega (arith, nested) } }
closes most (First j ∷ sides) part whole are all nested is = absurd (cc)
closes most (Second j first ∷ sides) part whole are all nested is =
    let done = closes most sides (join_of j first part) whole are.2 (join_all j first part are.0 all)
    (omega (arith, join_nesting j first part, larger_room (nesting first) (nesting part) (length sides + 1) most are.1 (omega (arith, nested)))) is
    in
    record { closes = done.closes; only = done.only; is = done.is }

-- the part leaves a side to be read
pub awaits : (most : ℕ) (sides : List Side) (part : Condition) → AreSides most sides → AreComparisons part → nesting part + length sides ≤ most → (closed part sides).whole ≡ None → Awaits most sides part (closed part sides).sides
awaits most [] part are all nested is = absurd (cc)
awaits most (First j ∷ sides) part are all nested is = record {
  only = λ whole more completes. completes;
  back = λ second whole rest completes. (second, rest, refl, completes);
  are = (all, omega (arith, nested), are.1);
}
awaits most (Second j first ∷ sides) part are all nested is =
    let next = awaits most sides (join_of j first part) are.2 (join_all j first part are.0 all)
    (omega (arith, join_nesting j first part, larger_room (nesting first) (nesting part) (length sides + 1) most are.1 (omega (arith, nested)))) is
    in
    record { only = next.only; back = next.back; are = next.are }

-- ---- leaves

pub leaf_true : (bytes rest : List ℕ) (kind : ℕ) → bytes ≡ kind ∷ rest → kind ≡ 0 → IsLeaf True bytes rest
leaf_true bytes rest kind first zero_kind = record {
  whole = here ∙ ap (λ (l : List ℕ). l ++ rest) (sym bytes-True);
  comparisons = subst (AllByRecursion IsComparison) (sym comparisons-True) tt;
  flat = nesting-True;
  only = λ other others all is. only other others all (sym here ∙ is);
}
  where
    here : bytes ≡ 0 ∷ rest
    here = first ∙ ap (λ (k : ℕ). k ∷ rest) zero_kind

    only : (other : Condition) → Begun 0 rest (λ c r. (c ≡ True) × (r ≡ rest)) other
    only = begun 0 rest (λ c r. (c ≡ True) × (r ≡ rest)) (λ r k e. (refl, sym e)) (λ key text r k c e. absurd (omega (arith, k))) (λ key text r k c e. absurd (omega (arith, k))) (λ f s r k c e. absurd (omega (arith, k))) (λ f s r k c e. absurd (omega (arith, k)))

pub leaf_eq : (bytes behind rest key text : List ℕ) (kind : ℕ) → bytes ≡ kind ∷ behind → kind ≡ 1 → behind ≡ (text_bytes key ++ text_bytes text) ++ rest → IsComparison (key, text) → IsLeaf (Eq key text) bytes rest
leaf_eq bytes behind rest key text kind first one found ok = record {
  whole = here ∙ ap (λ (l : List ℕ). 1 ∷ l) found ∙ ap (λ (l : List ℕ). l ++ rest) (sym (bytes-Eq key text));
  comparisons = subst (AllByRecursion IsComparison) (sym (comparisons-Eq key text)) (ok, tt);
  flat = nesting-Eq key text;
  only = λ other others all is. only other others all (sym here ∙ is);
}
  where
    here : bytes ≡ 1 ∷ behind
    here = first ∙ ap (λ (k : ℕ). k ∷ behind) one

    only : (other : Condition) → Begun 1 behind (λ c r. (c ≡ Eq key text) × (r ≡ rest)) other
    only = begun 1 behind (λ c r. (c ≡ Eq key text) × (r ≡ rest)) (λ r k e. absurd (omega (arith, k)))
        (λ key' text' r k c e. let same = same_pair key text key' text' rest r ok c (sym found ∙ e) in (λ i. Eq (sym same.0 i) (sym same.1 i), sym same.2))
        (λ key' text' r k c e. absurd (omega (arith, k))) (λ f s r k c e. absurd (omega (arith, k))) (λ f s r k c e. absurd (omega (arith, k)))

pub leaf_ne : (bytes behind rest key text : List ℕ) (kind : ℕ) → bytes ≡ kind ∷ behind → kind ≡ 2 → behind ≡ (text_bytes key ++ text_bytes text) ++ rest → IsComparison (key, text) → IsLeaf (Ne key text) bytes rest
leaf_ne bytes behind rest key text kind first two found ok = record {
  whole = here ∙ ap (λ (l : List ℕ). 2 ∷ l) found ∙ ap (λ (l : List ℕ). l ++ rest) (sym (bytes-Ne key text));
  comparisons = subst (AllByRecursion IsComparison) (sym (comparisons-Ne key text)) (ok, tt);
  flat = nesting-Ne key text;
  only = λ other others all is. only other others all (sym here ∙ is);
}
  where
    here : bytes ≡ 2 ∷ behind
    here = first ∙ ap (λ (k : ℕ). k ∷ behind) two

    only : (other : Condition) → Begun 2 behind (λ c r. (c ≡ Ne key text) × (r ≡ rest)) other
    only = begun 2 behind (λ c r. (c ≡ Ne key text) × (r ≡ rest)) (λ r k e. absurd (omega (arith, k)))
        (λ key' text' r k c e. absurd (omega (arith, k)))
        (λ key' text' r k c e. let same = same_pair key text key' text' rest r ok c (sym found ∙ e) in (λ i. Ne (sym same.0 i) (sym same.1 i), sym same.2))
        (λ f s r k c e. absurd (omega (arith, k))) (λ f s r k c e. absurd (omega (arith, k)))
