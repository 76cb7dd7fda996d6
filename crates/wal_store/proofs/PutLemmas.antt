-- A condition is put part by part.
use Rattle.std.proofs.Common.{◌≡◌, ℕ, ◌+◌, ◌<◌, ◌≤◌, List, [], ◌∷◌, ◌++◌, length, take, get_or, Option, Some, None, refl, sym, ap, subst, ◌∙◌}
use Rattle.std.specs.List.{flat_map, AllByRecursion, All}
use Rattle.std.proofs.lemmas.List.Elements.{recursion_from_All, All-from_recursion, All-get_or}
use Rattle.std.proofs.lemmas.List.{append_assoc, append-nil, take_more}
use Rattle.point_model.specs.Conditions.{Condition, True, Eq, Ne, And, Or, texts_of}
use Rattle.point_model.specs.Flat.{parts_of}
use Rattle.point_model.specs.declared.part.Join.{Join}
use Rattle.point_model.specs.declared.part.Join.TheVariants as join
use Rattle.point_model.specs.declared.part.Part.{Part}
use Rattle.wal_store.specs.Conditions.{condition_bytes, part_bytes, AreComparisons, HasShortPart, IsComparison, IsPart}
use Rattle.wal_store.proofs.ConditionLemmas.{all_front, all_both}

abbrev pub Parts : Type 0
Parts = List (Option Join × Part)

abbrev pub bytes_at : Option Join × Part → List ℕ
bytes_at part = part_bytes part.1

abbrev pub IsPartAt : Option Join × Part → Type 0
IsPartAt part = IsPart part.1

abbrev pub HasShortAt : Option Join × Part → Type 0
HasShortAt part = HasShortPart part.1

abbrev pub IsShort : List ℕ → Type 0
IsShort text = length text ≤ 65535

pub flat_both : (first second : Parts) → flat_map bytes_at (first ++ second) ≡ flat_map bytes_at first ++ flat_map bytes_at second
flat_both [] second = refl
flat_both (part ∷ first) second = ap (λ (bytes : List ℕ). bytes_at part ++ bytes) (flat_both first second) ∙ sym (append_assoc (bytes_at part) (flat_map bytes_at first) (flat_map bytes_at second))

pub parts_bytes : (c : Condition) (of : Option Join) → flat_map bytes_at (parts_of of c) ≡ condition_bytes c
parts_bytes True of = refl
parts_bytes (Eq key text) of = append-nil (condition_bytes (Eq key text))
parts_bytes (Ne key text) of = append-nil (condition_bytes (Ne key text))
parts_bytes (And a b) of =
    ap (λ (bytes : List ℕ). 3 ∷ bytes)
    (flat_both (parts_of None a) (parts_of (Some join.And) b) ∙ ap (λ (bytes : List ℕ). bytes ++ flat_map bytes_at (parts_of (Some join.And) b)) (parts_bytes a None) ∙ ap (λ (bytes : List ℕ). condition_bytes a ++ bytes) (parts_bytes b (Some join.And)))
parts_bytes (Or a b) of =
    ap (λ (bytes : List ℕ). 4 ∷ bytes)
    (flat_both (parts_of None a) (parts_of (Some join.Or) b) ∙ ap (λ (bytes : List ℕ). bytes ++ flat_map bytes_at (parts_of (Some join.Or) b)) (parts_bytes a None) ∙ ap (λ (bytes : List ℕ). condition_bytes a ++ bytes) (parts_bytes b (Some join.Or)))

pub parts_short : (c : Condition) (of : Option Join) → AllByRecursion IsShort (texts_of c) → AllByRecursion HasShortAt (parts_of of c)
parts_short True of short = (tt, tt)
parts_short (Eq key text) of short = ((short.0, short.1.0), tt)
parts_short (Ne key text) of short = ((short.0, short.1.0), tt)
parts_short (And a b) of short =
    let sides = all_front IsShort (texts_of a) (texts_of b) short in
    (tt, all_both HasShortAt (parts_of None a) (parts_of (Some join.And) b) (parts_short a None sides.0) (parts_short b (Some join.And) sides.1))
parts_short (Or a b) of short =
    let sides = all_front IsShort (texts_of a) (texts_of b) short in
    (tt, all_both HasShortAt (parts_of None a) (parts_of (Some join.Or) b) (parts_short a None sides.0) (parts_short b (Some join.Or) sides.1))

pub parts_compared : (c : Condition) (of : Option Join) → AllByRecursion IsPartAt (parts_of of c) → AreComparisons c
parts_compared True of all = tt
parts_compared (Eq key text) of all = (all.0, tt)
parts_compared (Ne key text) of all = (all.0, tt)
parts_compared (And a b) of all =
    let sides = all_front IsPartAt (parts_of None a) (parts_of (Some join.And) b) all.1 in
    all_both IsComparison _ _ (parts_compared a None sides.0) (parts_compared b (Some join.And) sides.1)
parts_compared (Or a b) of all =
    let sides = all_front IsPartAt (parts_of None a) (parts_of (Some join.Or) b) all.1 in
    all_both IsComparison _ _ (parts_compared a None sides.0) (parts_compared b (Some join.Or) sides.1)

pub short_parts : (c : Condition) → All IsShort (texts_of c) → AllByRecursion HasShortAt (parts_of None c)
short_parts c all = parts_short c None (recursion_from_All IsShort (texts_of c) all)

all_at : {X : Type 0} (P : X → Type 0) (xs : List X) (k : ℕ) (x : X) → AllByRecursion P xs → k < length xs → x ≡ get_or xs k x → P x
all_at P xs k x all within is = subst P (sym is) (All-get_or P xs k x within (All-from_recursion P xs all))

-- the texts of each part are short
pub short_at : (c : Condition) (items : Parts) (k : ℕ) (placed : Option Join × Part) → All IsShort (texts_of c) → items ≡ parts_of None c → k < length items → placed ≡ get_or items k placed → HasShortPart placed.1
short_at c items k placed short are within is = all_at HasShortAt items k placed (subst (AllByRecursion HasShortAt) (sym are) (short_parts c short)) within is

-- one part more is put
pub put_more : (before out next : List ℕ) (items : Parts) (k : ℕ) (placed : Option Join × Part) → k < length items → placed ≡ get_or items k placed → out ≡ before ++ flat_map bytes_at (take k items)
    → AllByRecursion IsPartAt (take k items) → next ≡ out ++ part_bytes placed.1 → IsPart placed.1
    → (next ≡ before ++ flat_map bytes_at (take (k + 1) items)) × AllByRecursion IsPartAt (take (k + 1) items)
put_more before out next items k placed within is bytes parts put one =
    let more : take (k + 1) items ≡ take k items ++ placed ∷ [] = take_more items k placed within ∙ ap (λ (p : Option Join × Part). take k items ++ p ∷ []) (sym is) in (
      put
          ∙ ap (λ (b : List ℕ). b ++ part_bytes placed.1) bytes
          ∙ append_assoc before (flat_map bytes_at (take k items)) (part_bytes placed.1)
          ∙ ap (λ (b : List ℕ). before ++ b) (ap (λ (b : List ℕ). flat_map bytes_at (take k items) ++ b) (sym (append-nil (part_bytes placed.1))) ∙ sym (flat_both (take k items) (placed ∷ [])) ∙ ap (flat_map bytes_at) (sym more)),
      subst (AllByRecursion IsPartAt) (sym more) (all_both IsPartAt (take k items) (placed ∷ []) parts (one, tt)),
    )
