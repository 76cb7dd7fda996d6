-- Which values points hold behind a batch or a deletion, and when they accept a batch.
use Rattle.std.proofs.Common.{◌≡◌, ◌∙◌, ap, sym, subst, refl, inl, inr, ⊎_elim, ◌⊎◌, ◌↔◌, ℕ, zero, suc, ◌<◌, arith, Bool, true, false, cond, not, ◌&&◌, T, IsTrue, Option, Some, None, is_some, List, [], ◌∷◌, All, Contains, get_or, length, Ordering, Less, Equal, Greater}
use Rattle.std.specs.Ordering.{eq_by_cmp, is_lt, is_eq}
use Rattle.std.specs.FinMap.Entries.{find, is_sorted, below_all}
use Rattle.std.specs.Cmp.{eq_by_cmp_equiv}
use Rattle.std.specs.BTreeMap.{is_at}
use Rattle.std.specs.List.{AllByRecursion}
use Rattle.std.specs.List.Sorted.{IsStrictlySortedBy}
use Rattle.std.specs.Map.{keys_of}
use Rattle.std.proofs.lemmas.Bool.{cases_Bool, cond-true, cond-false, false≢true}
use Rattle.std.proofs.lemmas.Map.Views.{tells_apart}
use Rattle.tsdb_types.specs.Values.{kind_of}
use Rattle.tsdb_types.specs.declared.point.Cell.{Cell}
use Rattle.tsdb_types.specs.declared.point.Point.{Point}
use Rattle.tsdb_types.specs.declared.value.Value.{Value}
use Rattle.tsdb_types.specs.declared.value.Kind.{Kind}
use Rattle.point_model.specs.declared.deletion.Deletion.{Deletion}
use Rattle.point_model.specs.declared.entry.Entry.{Entry}
use Rattle.point_model.specs.declared.entry.Entry.TheVariants.{Write, Delete}
use Rattle.point_model.specs.Acceptance.{AgreesWith, Conflict, HasOneKind, IsCell, IsSound, IsStored, Takes, conflict, conflict_before, other_kind, is_same_kind}
use Rattle.point_model.specs.Deletions.{is_deleted, without}
use Rattle.point_model.specs.Histories.{after_entry, with_points}
use Rattle.point_model.specs.Laws.{AcceptedByValues, EntriesKeepStored, NoValuesNoPoints}
use Rattle.point_model.specs.Measurements.{is_same_field}
use Rattle.point_model.specs.Points.{Points, cell_cmp, no_points, value_at, with_point}
use Rattle.point_model.proofs.FieldLemmas.{kind_itself, kind_same, same_field-sym}
use Rattle.point_model.proofs.PointLemmas.{cell_exact, cell_total, find_is, sorted-with_points, sorted-without, sorted_test, value_at-with_point, value_at-without}

-- it is one of them
abbrev pub Among : {X : Type 0} → X → List X → Type 0
Among x [] = ⊥
Among x (first ∷ xs) = (first ≡ x) ⊎ Among x xs

pub among_contained : {X : Type 0} (x : X) (xs : List X) → Contains xs x → Among x xs
among_contained x [] (k, l, e) = absurd (omega (arith, l))
among_contained x (first ∷ xs) (zero, l, e) = inl e
among_contained x (first ∷ xs) (suc k, l, e) = inr (among_contained x xs (k, (omega (arith, l)), e))

pub contained_among : {X : Type 0} (x : X) (xs : List X) → Among x xs → Contains xs x
contained_among x [] m = absurd m
contained_among x (first ∷ xs) (inl e) = (0, omega arith, e)
contained_among x (first ∷ xs) (inr m) = let r = contained_among x xs m in (suc r.0, (let l = r.1 in omega (arith, l)), r.2)

pub all_among : {X : Type 0} (P : X → Type 0) (xs : List X) → ((x : X) → Among x xs → P x) → All P xs
all_among {X} P xs each k d l = each (get_or xs k d) (at xs k l)
  where
    at : (ys : List X) (k : ℕ) → k < length ys → Among (get_or ys k d) ys
    at [] k l = absurd (omega (arith, l))
    at (y ∷ ys) zero l = inl refl
    at (y ∷ ys) (suc k) l = inr (at ys k (omega (arith, l)))

pub among_all : {X : Type 0} (P : X → Type 0) (xs : List X) → All P xs → (x : X) → Among x xs → P x
among_all P [] all x m = absurd m
among_all P (first ∷ xs) all x (inl e) = subst P e (all 0 first (omega arith))
among_all P (first ∷ xs) all x (inr m) = among_all P xs (λ k d l. all (suc k) d (omega (arith, l))) x m

t_first : (a b : Bool) → T (a && b) → T a
t_first true b p = tt
t_first false b p = p

t_second : (a b : Bool) → T (a && b) → T b
t_second true b p = p
t_second false b p = absurd p

below_of : (first : Cell) (e : Cell × Value) (points : Points) → T (below_all cell_cmp first points) → Among e points → T (is_lt (cell_cmp first e.0))
below_of first e [] below m = absurd m
below_of first e (x ∷ points) below (inl same) = subst (λ (p : Cell × Value). T (is_lt (cell_cmp first p.0))) same (t_first _ _ below)
below_of first e (x ∷ points) below (inr behind) = below_of first e points (t_second _ _ below) behind

less_apart : (o : Ordering) → T (is_lt o) → is_eq o ≡ false
less_apart Less l = refl
less_apart Equal l = absurd l
less_apart Greater l = refl

-- a pair of points in order is what its cell has
pub among_found : (e : Cell × Value) (points : Points) → T (is_sorted cell_cmp points) → Among e points → value_at points e.0 ≡ Some e.1
among_found e points sorted m = sym (find_is cell_cmp e.0 points) ∙ by points sorted m
  where
    by : (ps : Points) → T (is_sorted cell_cmp ps) → Among e ps → find cell_cmp e.0 ps ≡ Some e.1
    by [] s m = absurd m
    by (x ∷ ps) s (inl same) =
        let laws = eq_by_cmp_equiv cell_total in
        subst (λ (d : Cell × Value). find cell_cmp d.0 (x ∷ ps) ≡ Some d.1) same (cond-true (eq_by_cmp cell_cmp x.0 x.0) (Some x.1) (find cell_cmp x.0 ps) (laws.refl x.0))
    by (x ∷ ps) s (inr behind) =
        let laws = eq_by_cmp_equiv cell_total in
        let apart : eq_by_cmp cell_cmp e.0 x.0 ≡ false = laws.symm e.0 x.0 ∙ less_apart (cell_cmp x.0 e.0) (below_of x.0 e ps (t_first _ _ s) behind) in
        cond-false (eq_by_cmp cell_cmp e.0 x.0) (Some x.1) (find cell_cmp e.0 ps) apart ∙ by ps (t_second (below_all cell_cmp x.0 ps) _ s) behind

pub some_values : {X : Type 0} (a b : X) → Some a ≡ Some b → a ≡ b
some_values a b e = cc

pub none_some : {X : Type 0} (a : X) → None ≡ Some a → ⊥
none_some a e = false≢true (ap is_some e)

-- what a cell has is a pair of the points
pub found_among : (c : Cell) (v : Value) (points : Points) → value_at points c ≡ Some v → Among (c, v) points
found_among c v [] e = none_some v e
found_among c v (x ∷ points) e =
    ⊎_elim
    (λ (b : is_at (cell_cmp c) x.0 ≡ true).
    let cells : x.0 ≡ c = sym (tells_apart cell_exact c x.0 b) in
    let values : x.1 ≡ v = some_values x.1 v (sym (cond-true _ (Some x.1) (value_at points c) b) ∙ e) in
    inl (λ i. (cells i, values i)))
    (λ (b : is_at (cell_cmp c) x.0 ≡ false). inr (found_among c v points (sym (cond-false _ (Some x.1) (value_at points c) b) ∙ e)))
    (cases_Bool (is_at (cell_cmp c) x.0))

-- the pair is one of the point's field, of another kind
abbrev conflicts : Point → Cell × Value → Bool
conflicts point e = is_same_field point.cell e.0 && not (is_same_kind (kind_of e.1) (kind_of point.value))

other_none : (points : Points) (point : Point) → ((e : Cell × Value) → Among e points → conflicts point e ≡ false) → other_kind points point ≡ None
other_none [] point never = refl
other_none (x ∷ points) point never = cond-false (conflicts point x) (Some (kind_of x.1)) (other_kind points point) (never x (inl refl)) ∙ other_none points point (λ e m. never e (inr m))

none_other : (points : Points) (point : Point) → other_kind points point ≡ None → (e : Cell × Value) → Among e points → conflicts point e ≡ false
none_other [] point n e m = absurd m
none_other (x ∷ points) point n e m =
    ⊎_elim
    (λ (b : conflicts point x ≡ true). absurd (none_some (kind_of x.1) (sym n ∙ cond-true (conflicts point x) (Some (kind_of x.1)) (other_kind points point) b)))
    (λ (b : conflicts point x ≡ false).
    ⊎_elim
    (λ (same : x ≡ e). subst (λ (d : Cell × Value). conflicts point d ≡ false) same b)
    (λ (behind : Among e points). none_other points point (sym (cond-false (conflicts point x) (Some (kind_of x.1)) (other_kind points point) b) ∙ n) e behind)
    m)
    (cases_Bool (conflicts point x))

no_first : (point : Point) (o : Option Kind) (behind : Option Conflict) → conflict_before point o behind ≡ None → (o ≡ None) × (behind ≡ None)
no_first point None behind e = (refl, e)
no_first point (Some kind) behind e = absurd (none_some _ (sym e))

each_accepted : (points : Points) (batch : List Point) → conflict points batch ≡ None → (p : Point) → Among p batch → other_kind points p ≡ None
each_accepted points [] a p m = absurd m
each_accepted points (point ∷ batch) a p (inl e) = subst (λ (q : Point). other_kind points q ≡ None) e (no_first point (other_kind points point) (conflict points batch) a).0
each_accepted points (point ∷ batch) a p (inr m) = each_accepted points batch (no_first point (other_kind points point) (conflict points batch) a).1 p m

all_accepted : (points : Points) (batch : List Point) → ((p : Point) → Among p batch → other_kind points p ≡ None) → conflict points batch ≡ None
all_accepted points [] each = refl
all_accepted points (point ∷ batch) each =
    ap (λ (o : Option Kind). conflict_before point o (conflict points batch)) (each point (inl refl)) ∙ all_accepted points batch (λ p m. each p (inr m))

not_other : (a b : Bool) → (a && not b) ≡ false → a ≡ true → b ≡ true
not_other true true e t = refl
not_other true false e t = sym e
not_other false b e t = absurd (false≢true t)

no_conflict : (a b : Bool) → (a ≡ true → b ≡ true) → (a && not b) ≡ false
no_conflict true b e = ap not (e refl)
no_conflict false b e = refl

pub agrees : (points : Points) (batch : List Point) → conflict points batch ≡ None → AgreesWith points batch
agrees points batch a c v e p there same =
    let none = none_other points p (each_accepted points batch a p (among_contained p batch there)) (c, v) (found_among c v points e) in
    kind_same (kind_of v) (kind_of p.value) (not_other (is_same_field p.cell c) _ none (same_field-sym c p.cell same))

pub accepted : (points : Points) (batch : List Point) → T (is_sorted cell_cmp points) → AgreesWith points batch → conflict points batch ≡ None
accepted points batch sorted agree =
    all_accepted points batch
    (λ p m.
    other_none points p
    (λ e among.
    no_conflict (is_same_field p.cell e.0) (is_same_kind (kind_of e.1) (kind_of p.value))
    (λ same. kind_itself (kind_of e.1) (kind_of p.value) (agree e.0 e.1 (among_found e points sorted among) p (contained_among p batch m) (same_field-sym p.cell e.0 same)))))

pub by_values : AcceptedByValues
by_values points batch sorted = (λ a. agrees points batch a, λ agree. accepted points batch (sorted_test cell_cmp points sorted) agree)

-- a value behind a batch was there, or is one of the batch
pub from_where : (points : Points) (batch : List Point) (c : Cell) (v : Value) → value_at (with_points points batch) c ≡ Some v
    → (value_at points c ≡ Some v) ⊎ ((p : Point) × Among p batch × (p.cell ≡ c) × (p.value ≡ v))
from_where points [] c v e = inl e
from_where points (point ∷ batch) c v e =
    ⊎_elim
    (λ (before : value_at (with_point points point) c ≡ Some v).
    ⊎_elim
    (λ (b : is_at (cell_cmp point.cell) c ≡ true).
    inr (point, inl refl, tells_apart cell_exact point.cell c b, some_values point.value v (sym (cond-true _ (Some point.value) (value_at points c) b) ∙ sym (value_at-with_point points point c) ∙ before)))
    (λ (b : is_at (cell_cmp point.cell) c ≡ false). inl (sym (cond-false _ (Some point.value) (value_at points c) b) ∙ sym (value_at-with_point points point c) ∙ before))
    (cases_Bool (is_at (cell_cmp point.cell) c)))
    (λ later. inr (later.0, inr later.1, later.2, later.3))
    (from_where (with_point points point) batch c v e)

kept_some : (stays : Bool) (o : Option Value) (v : Value) → cond stays o None ≡ Some v → o ≡ Some v
kept_some true o v e = e
kept_some false o v e = absurd (none_some v e)

-- a value behind a deletion was there
pub from_before : (points : Points) (deletion : Deletion) (c : Cell) (v : Value) → value_at (without points deletion) c ≡ Some v → value_at points c ≡ Some v
from_before points deletion c v e = kept_some (not (is_deleted deletion c)) (value_at points c) v (sym (value_at-without points deletion c) ∙ e)

each_less : (x : Cell) (es : Points) → T (below_all cell_cmp x es) → AllByRecursion (λ y. cell_cmp x y ≡ Less) (keys_of es)
each_less x [] b = tt
each_less x (e ∷ es) b = (less (cell_cmp x e.0) (t_first (is_lt (cell_cmp x e.0)) _ b), each_less x es (t_second (is_lt (cell_cmp x e.0)) _ b))
  where
    less : (o : Ordering) → T (is_lt o) → o ≡ Less
    less Less l = refl
    less Equal l = absurd l
    less Greater l = absurd l

pub test_sorted : (es : Points) → T (is_sorted cell_cmp es) → IsStrictlySortedBy cell_cmp (keys_of es)
unfolding IsStrictlySortedBy
test_sorted [] s = tt
test_sorted (e ∷ es) s = (each_less e.0 es (t_first (below_all cell_cmp e.0 es) _ s), test_sorted es (t_second (below_all cell_cmp e.0 es) _ s))

-- points whose values were stored, or are those of a batch with one kind for each field that was accepted
module _ (points : Points) (stored : IsStored points) where
  abbrev sound : IsSound points
  sound = stored.sound

  cell_of : (c : Cell) (v : Value) → value_at points c ≡ Some v → IsCell c
  cell_of c v e = among_all (λ (e : Cell × Value). IsCell e.0) points stored.cells (c, v) (found_among c v points e)

  -- other points are stored where each of their values is
  of_values : (others : Points) → T (is_sorted cell_cmp others) → ((c : Cell) (v : Value) → value_at others c ≡ Some v → IsCell c)
      → ((a b : Cell) (v w : Value) → value_at others a ≡ Some v → value_at others b ≡ Some w → IsTrue (is_same_field a b) → kind_of v ≡ kind_of w)
      → IsStored others
  of_values others sorted cells one_kind = record {
    sound = record { ordered = test_sorted others sorted; one_kind = one_kind };
    cells = all_among (λ (e : Cell × Value). IsCell e.0) others (λ e m. cells e.0 e.1 (among_found e others sorted m));
  }

  pub stored-without : (deletion : Deletion) → IsStored (without points deletion)
  stored-without deletion =
      of_values (without points deletion) (sorted-without points deletion (sorted_test cell_cmp points sound.ordered))
      (λ c v e. cell_of c v (from_before points deletion c v e))
      (λ a b v w at_a at_b. sound.one_kind a b v w (from_before points deletion a v at_a) (from_before points deletion b w at_b))

  module _ (batch : List Point) (accepts : conflict points batch ≡ None) (one : HasOneKind batch) (cells : All (λ (p : Point). IsCell p.cell) batch) where
    of_batch : (a b : Cell) (v w : Value) → value_at (with_points points batch) a ≡ Some v → value_at (with_points points batch) b ≡ Some w → IsTrue (is_same_field a b) → kind_of v ≡ kind_of w
    of_batch a b v w at_a at_b same =
        ⊎_elim
        (λ old_a.
        ⊎_elim
        (λ old_b. sound.one_kind a b v w old_a old_b same)
        (λ new_b.
        agrees points batch accepts a v old_a new_b.0 (contained_among new_b.0 batch new_b.1) (subst (λ (q : Cell). IsTrue (is_same_field a q)) (sym new_b.2) same)
        ∙ ap kind_of new_b.3)
        (from_where points batch b w at_b))
        (λ new_a.
        ⊎_elim
        (λ old_b.
        sym
        (agrees points batch accepts b w old_b new_a.0 (contained_among new_a.0 batch new_a.1)
        (subst (λ (q : Cell). IsTrue (is_same_field b q)) (sym new_a.2) (same_field-sym a b same))
        ∙ ap kind_of new_a.3))
        (λ new_b.
        ap kind_of (sym new_a.3)
        ∙ one new_a.0 new_b.0 (contained_among new_a.0 batch new_a.1) (contained_among new_b.0 batch new_b.1)
        (subst (λ (q : Cell). IsTrue (is_same_field q new_b.0.cell)) (sym new_a.2) (subst (λ (q : Cell). IsTrue (is_same_field a q)) (sym new_b.2) same))
        ∙ ap kind_of new_b.3)
        (from_where points batch b w at_b))
        (from_where points batch a v at_a)

    pub stored-with : IsStored (with_points points batch)
    stored-with =
        of_values (with_points points batch) (sorted-with_points points batch (sorted_test cell_cmp points sound.ordered))
        (λ c v e.
        ⊎_elim
        (λ before. cell_of c v before)
        (λ new. subst IsCell new.2 (among_all (λ (p : Point). IsCell p.cell) batch cells new.0 new.1))
        (from_where points batch c v e))
        of_batch

pub entries_keep : EntriesKeepStored
entries_keep points (Write client batch) stored takes = stored-with points stored batch takes.0 takes.1 takes.2
entries_keep points (Delete client deletion) stored takes = stored-without points stored deletion

-- points without a value are none
pub no_values : NoValuesNoPoints
no_values [] none = refl
no_values (point ∷ points) none =
    let laws = eq_by_cmp_equiv cell_total in
    absurd (none_some point.1 (sym (none point.0) ∙ cond-true (is_at (cell_cmp point.0) point.0) (Some point.1) (value_at points point.0) (laws.refl point.0)))
