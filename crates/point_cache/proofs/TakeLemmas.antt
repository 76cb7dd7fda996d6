-- Keys that are taken out of a table, and points that are taken from a key.
use Rattle.std.proofs.Common.{◌≡◌, ◌≢◌, ℕ, zero, suc, ◌+◌, ◌-◌, ◌<◌, ◌≤◌, ℤ, Bool, true, false, cond, not, List, [], ◌∷◌, length, take, get_or, filter, sum_by, Option, Some, None, IfSome, is_some, slice_get, nat_eq, ◌⊎◌, inl, inr, refl, sym, ap, ◌∙◌, subst, ⊎_elim, arith, Vec, Global, if◌then◌else◌}
use Rattle.std.specs.List.{AllByRecursion, swap_remove, slice_set, slice_index_or}
use Rattle.std.specs.Map.{lookup}
use Rattle.std.specs.Cmp.Lexicographic.{pointwise}
use Rattle.std.proofs.lemmas.Bool.{false≢true}
use Rattle.std.proofs.lemmas.List.Sums.{sum_by-cons, sum_by-swap_remove}
use Rattle.std.proofs.lemmas.Option.{slice_get-get_or, slice_get_within, get_or_from_slice_get}
use Rattle.indexmap.specs.Layout.{set_value_at}
use Rattle.point_model.specs.Rows.{Row}
use Rattle.point_cache.specs.Cached.{AreAscending, is_within, rows_outside}
use Rattle.point_cache.specs.Leaving.{Drops, RemovesKey, cut_of, points_without}
use Rattle.point_cache.specs.Staged.{Staged, Entry, Slot, HavePoints, IsUnstaged, KeysApart, entries_of, no_rows, staged_at}
use Rattle.point_cache.specs.Steps.{ChangesAt, HasKey}
use Rattle.point_cache.proofs.EntryLemmas.{all-set, all_entries, all_entry, entry_of, key_same, same_key, staged_at-place, staged_at-set, staged_found, staged_or, sum-set, set_entry}
use Rattle.point_cache.proofs.OrderLemmas.{ascending-filter}

pub shorter : (p : Row → Bool) (xs : List Row) → length (filter p xs) ≤ length xs
shorter p [] = omega arith
shorter p (x ∷ xs) = by (p x) (shorter p xs)
  where
    by : (b : Bool) → length (filter p xs) ≤ length xs → length (cond b (x ∷ filter p xs) (filter p xs)) ≤ suc (length xs)
    by true h = omega arith
    by false h = omega arith

-- ---- a key is in a table, or nothing is found of it

key_in : (slots : List Slot) (key : List ℕ) → (lookup (λ (k : Vec ℕ Global). pointwise nat_eq key k.items) slots ≡ None) ⊎ ((q : Vec ℕ Global) × (q.items ≡ key))
key_in [] key = inl refl
key_in (s ∷ slots) key = by (pointwise nat_eq key s.0.items) refl (key_in slots key)
  where
    by : (b : Bool) → pointwise nat_eq key s.0.items ≡ b → (lookup (λ (k : Vec ℕ Global). pointwise nat_eq key k.items) slots ≡ None) ⊎ ((q : Vec ℕ Global) × (q.items ≡ key))
        → (cond (pointwise nat_eq key s.0.items) (Some s.1) (lookup (λ (k : Vec ℕ Global). pointwise nat_eq key k.items) slots) ≡ None) ⊎ ((q : Vec ℕ Global) × (q.items ≡ key))
    by true e rest = inr (s.0, sym (same_key key s.0.items e))
    by false e (inl none) = inl (ap (λ (c : Bool). cond c (Some s.1) (lookup (λ (k : Vec ℕ Global). pointwise nat_eq key k.items) slots)) e ∙ none)
    by false e (inr q) = inr q

-- what each key that a table can have finds in two of them, each list finds
pub every_key : (m n : List Slot) (P : Staged → Staged → Type 0) → P no_rows no_rows
    → ((q : Vec ℕ Global) → P (staged_or (lookup (λ (k : Vec ℕ Global). pointwise nat_eq q.items k.items) m)) (staged_or (lookup (λ (k : Vec ℕ Global). pointwise nat_eq q.items k.items) n)))
    → (key : List ℕ) → P (staged_at (entries_of m) key) (staged_at (entries_of n) key)
every_key m n P none each key =
    let at = λ (q : (q : Vec ℕ Global) × (q.items ≡ key)).
    subst (λ (k : List ℕ). P (staged_at (entries_of m) k) (staged_at (entries_of n) k)) q.1
    (subst (λ (s : Staged). P s (staged_at (entries_of n) q.0.items)) (sym (staged_found m q.0.items)) (subst (λ (s : Staged). P (staged_or (lookup (λ (k : Vec ℕ Global). pointwise nat_eq q.0.items k.items) m)) s) (sym (staged_found n q.0.items)) (each q.0))) in
    ⊎_elim
    (λ (a : lookup (λ (k : Vec ℕ Global). pointwise nat_eq key k.items) m ≡ None). ⊎_elim
    (λ (b : lookup (λ (k : Vec ℕ Global). pointwise nat_eq key k.items) n ≡ None).
    subst (λ (s : Staged). P s (staged_at (entries_of n) key)) (sym (staged_found m key ∙ ap staged_or a)) (subst (λ (s : Staged). P no_rows s) (sym (staged_found n key ∙ ap staged_or b)) none))
    (λ (q : (q : Vec ℕ Global) × (q.items ≡ key)). at q) (key_in n key))
    (λ (q : (q : Vec ℕ Global) × (q.items ≡ key)). at q) (key_in m key)

-- ---- a place that is taken out

pub slot_from : (slots : List Slot) (p : ℕ) (e : Entry) → slice_get (entries_of slots) p ≡ Some e → (slot : Slot) × (slice_get slots p ≡ Some slot) × (e ≡ (slot.0.items, slot.1))
slot_from [] p e h = absurd cc
slot_from (s ∷ slots) zero e h = let own : e ≡ (s.0.items, s.1) = cc in (s, refl, own)
slot_from (s ∷ slots) (suc p) e h = slot_from slots p e h

take_get : {X : Type 0} (xs : List X) (n q : ℕ) (x : X) → slice_get (take n xs) q ≡ Some x → (q < n) × (slice_get xs q ≡ Some x)
take_get [] zero q x h = absurd cc
take_get [] (suc n) q x h = absurd cc
take_get (y ∷ xs) zero q x h = absurd cc
take_get (y ∷ xs) (suc n) zero x h = (omega arith, h)
take_get (y ∷ xs) (suc n) (suc q) x h = let rest = take_get xs n q x h in (omega (arith, rest.0), rest.1)

set_get : {X : Type 0} (xs : List X) (i q : ℕ) (w x : X) → slice_get (slice_set xs i w) q ≡ Some x → ((q ≡ i) × (x ≡ w)) ⊎ ((q ≢ i) × (slice_get xs q ≡ Some x))
set_get [] i q w x h = absurd cc
set_get (y ∷ xs) zero zero w x h = let own : x ≡ w = cc in inl (refl, own)
set_get (y ∷ xs) zero (suc q) w x h = inr ((λ e. absurd (omega arith)), h)
set_get (y ∷ xs) (suc i) zero w x h = inr ((λ e. absurd (omega arith)), h)
set_get (y ∷ xs) (suc i) (suc q) w x h =
    ⊎_elim (λ (a : (q ≡ i) × (x ≡ w)). inl (ap suc a.0, a.1)) (λ (a : (q ≢ i) × (slice_get xs q ≡ Some x)). inr ((λ e. a.0 (omega arith)), a.1)) (set_get xs i q w x h)

-- each that is left stood at another place
pub from_other : {X : Type 0} (xs : List X) (i : ℕ) (d : X) (q : ℕ) (x : X) → i < length xs → slice_get (swap_remove xs i d) q ≡ Some x → (p : ℕ) × (p ≢ i) × (slice_get xs p ≡ Some x)
from_other xs i d q x h at =
    let cut = take_get (slice_set xs i (slice_index_or xs (length xs - 1) d)) (length xs - 1) q x at in
    ⊎_elim
    (λ (a : (q ≡ i) × (x ≡ slice_index_or xs (length xs - 1) d)).
    let last : length xs - 1 < length xs = omega arith in
    (length xs - 1, (λ e. absurd (omega (arith, cut.0, a.0))), slice_get-get_or xs (length xs - 1) d last ∙ ap Some (sym a.1)))
    (λ (a : (q ≢ i) × (slice_get xs q ≡ Some x)). (q, a.0, a.1))
    (set_get xs i q (slice_index_or xs (length xs - 1) d) x cut.1)

pub count_slots : (slots : List Slot) → sum_by (λ (e : Entry). length e.1.live) (entries_of slots) ≡ sum_by (λ (s : Slot). length s.1.live) slots
count_slots [] = refl
count_slots (s ∷ slots) =
    let rest = count_slots slots in
    let one = sum_by-cons (λ (e : Entry). length e.1.live) (s.0.items, s.1) (entries_of slots) in
    let two = sum_by-cons (λ (x : Slot). length x.1.live) s slots in
    omega (arith, one, two)

pub drop_counted : (slots : List Slot) (i : ℕ) (slot : Slot) → slice_get slots i ≡ Some slot → slot.1.live ≡ [] → sum_by (λ (e : Entry). length e.1.live) (entries_of (swap_remove slots i slot)) ≡ sum_by (λ (e : Entry). length e.1.live) (entries_of slots)
drop_counted slots i slot at none =
    let sum = sum_by-swap_remove (λ (s : Slot). length s.1.live) slots i slot (slice_get_within slots i slot at) in
    let own : get_or slots i slot ≡ slot = get_or_from_slice_get slots i slot slot at in
    let zero_long : length (get_or slots i slot).1.live ≡ 0 = ap (λ (s : Slot). length s.1.live) own ∙ ap length none in
    let a = count_slots (swap_remove slots i slot) in
    let b = count_slots slots in
    omega (arith, sum, zero_long, a, b)

-- a key whose points are empty, taken out
drop_value : (b : Bool) (x : Option Staged) → (b ≡ true → (staged_or x).live ≡ []) → (staged_or (cond b None x)).live ≡ (staged_or x).live
drop_value true x h = sym (h refl)
drop_value false x h = refl

pub drop_points : (m n : List Slot) (i : ℕ) (slot : Slot) → KeysApart (entries_of m) → slice_get (entries_of m) i ≡ Some (slot.0.items, slot.1) → slot.1.live ≡ []
    → ((q : Vec ℕ Global) → lookup (λ (k : Vec ℕ Global). pointwise nat_eq q.items k.items) n ≡ cond (pointwise nat_eq slot.0.items q.items) None (lookup (λ (k : Vec ℕ Global). pointwise nat_eq q.items k.items) m))
    → (key : List ℕ) → (staged_at (entries_of n) key).live ≡ (staged_at (entries_of m) key).live
drop_points m n i slot apart at none is =
    every_key n m (λ (x y : Staged). x.live ≡ y.live) refl
    (λ q. ap (λ (o : Option Staged). (staged_or o).live) (is q)
    ∙ drop_value (pointwise nat_eq slot.0.items q.items) (lookup (λ (k : Vec ℕ Global). pointwise nat_eq q.items k.items) m)
    (λ same. ap (λ (s : Staged). s.live) (sym (staged_found m q.items) ∙ staged_at-place (entries_of m) i (slot.0.items, slot.1) at apart q.items (key_same q.items slot.0.items (sym (same_key slot.0.items q.items same)))) ∙ none))

-- ---- points that are taken away

cut_value : (b : Bool) (w x : Staged) (from to : ℤ) → (b ≡ true → w.live ≡ rows_outside from to x.live) → (if b then w else x).live ≡ (if b then rows_outside from to x.live else x.live)
cut_value true w x from to h = h refl
cut_value false w x from to h = refl

pub cut_points : (key : List ℕ) (from to : ℤ) (place : ℕ) (old new : List Entry) → HasKey old place key → KeysApart old → ChangesAt (cut_of from to) place old new → (other : List ℕ) → (staged_at new other).live ≡ points_without key from to other (staged_at old other).live
cut_points key from to place old new has apart (inl none) other = let nothing = none.0 in let there = has.1 in let both : None ≡ Some (key, has.0) = sym nothing ∙ there in absurd cc
cut_points key from to place old new has apart (inr changed) other =
    let entry = changed.0 in
    let both : Some entry ≡ Some (key, has.0) = sym changed.1 ∙ has.1 in
    let own : entry ≡ (key, has.0) = cc in
    let same : entry.0 ≡ key = ap (λ (e : Entry). e.0) own in
    ap (λ (es : List Entry). (staged_at es other).live) changed.2 ∙ ap (λ (s : Staged). s.live) (staged_at-set old place entry (cut_of from to entry.1) changed.1 apart other)
    ∙ ap (λ (k : List ℕ). (if pointwise nat_eq other k then cut_of from to entry.1 else staged_at old other).live) same
    ∙ cut_value (pointwise nat_eq other key) (cut_of from to entry.1) (staged_at old other) from to
    (λ is. ap (λ (s : Staged). rows_outside from to s.live) (sym (staged_at-place old place entry changed.1 apart other (ap (pointwise nat_eq other) same ∙ is))))

pub cut_unstaged : (from to : ℤ) (place : ℕ) (old new : List Entry) → ChangesAt (cut_of from to) place old new → IsUnstaged old → IsUnstaged new
cut_unstaged from to place old new (inl none) a = subst IsUnstaged (sym none.1) a
cut_unstaged from to place old new (inr changed) a = subst IsUnstaged (sym changed.2) (all-set (λ (e : Entry). e.1.next ≡ e.1.live) old place changed.0 (cut_of from to changed.0.1) changed.1 refl a)

pub cut_ascending : (from to : ℤ) (place : ℕ) (old new : List Entry) → ChangesAt (cut_of from to) place old new → AllByRecursion (λ e. AreAscending e.1.live) old → AllByRecursion (λ e. AreAscending e.1.live) new
cut_ascending from to place old new (inl none) a = subst (AllByRecursion (λ e. AreAscending e.1.live)) (sym none.1) a
cut_ascending from to place old new (inr changed) a =
    subst (AllByRecursion (λ e. AreAscending e.1.live)) (sym changed.2)
    (all-set (λ (e : Entry). AreAscending e.1.live) old place changed.0 (cut_of from to changed.0.1) changed.1
    (ascending-filter (λ (r : Row). not (is_within from to r.0)) changed.0.1.live (all_entry (λ (e : Entry). AreAscending e.1.live) old place changed.0 changed.1 a)) a)

-- every other key keeps its points
pub cut_others : (from to : ℤ) (place : ℕ) (old new : List Entry) → ChangesAt (cut_of from to) place old new → HavePoints old → (p : ℕ) (e : Entry) → slice_get new p ≡ Some e → (p ≡ place) ⊎ (e.1.live ≢ [])
cut_others from to place old new (inl none) some p e at = inr (all_entry (λ (y : Entry). y.1.live ≢ []) old p e (subst (λ (es : List Entry). slice_get es p ≡ Some e) none.1 at) some)
cut_others from to place old new (inr changed) some p e at =
    ⊎_elim
    (λ (own : (place ≡ p) × (e ≡ (changed.0.0, cut_of from to changed.0.1))). inl (sym own.0))
    (λ (was : slice_get old p ≡ Some e). inr (all_entry (λ (y : Entry). y.1.live ≢ []) old p e was some))
    (set_entry old place p (cut_of from to changed.0.1) changed.0 e changed.1 (subst (λ (es : List Entry). slice_get es p ≡ Some e) changed.2 at))

-- ---- the two together

pub drops_none : (place : ℕ) (es : List Entry) → length es ≤ place → Drops place es es
drops_none place es h = record {
  points = λ key. refl;
  from_old = λ p e at. (p, (λ same. absurd (omega (arith, slice_get_within es p e at))), at);
  counted = refl;
}

pub drops_one : (m n : List Slot) (place : ℕ) (r : Option Slot) → place < length m → r ≡ slice_get m place → IfSome r (λ slot. n ≡ swap_remove m place slot)
    → IfSome r (λ slot. (q : Vec ℕ Global) → lookup (λ (k : Vec ℕ Global). pointwise nat_eq q.items k.items) n ≡ cond (pointwise nat_eq slot.0.items q.items) None (lookup (λ (k : Vec ℕ Global). pointwise nat_eq q.items k.items) m))
    → KeysApart (entries_of m) → ((e : Entry) → slice_get (entries_of m) place ≡ Some e → e.1.live ≡ []) → Drops place (entries_of m) (entries_of n)
drops_one [] n place None h at is look apart none = absurd (omega arith)
drops_one (x ∷ m) n place None h at is look apart none = let there = slice_get-get_or (x ∷ m) place x h in let both : None ≡ Some (get_or (x ∷ m) place x) = at ∙ there in absurd cc
drops_one m n place (Some slot) h at is look apart none =
    let there = entry_of m place slot (sym at) in
    let empty = none (slot.0.items, slot.1) there in
    record {
      points = drop_points m n place slot apart there empty look;
      from_old = λ p e now.
          let found = slot_from n p e now in
          let was = from_other m place slot p found.0 h (subst (λ (l : List Slot). slice_get l p ≡ Some found.0) is found.1) in
          (was.0, was.1, entry_of m was.0 found.0 was.2 ∙ ap Some (sym found.2));
      counted = ap (λ (l : List Slot). sum_by (λ (e : Entry). length e.1.live) (entries_of l)) is ∙ drop_counted m place slot (sym at) empty;
    }

pub removes_all : (key : List ℕ) (from to : ℤ) (place : ℕ) (old mid new : List Entry) → HasKey old place key → KeysApart old → ChangesAt (cut_of from to) place old mid → Drops place mid new → RemovesKey key from to old new
removes_all key from to place old mid new has apart cut drops = record {
  points = λ other. drops.points other ∙ cut_points key from to place old mid has apart cut other;
  unstaged = λ a. all_entries (λ (e : Entry). e.1.next ≡ e.1.live) new (λ p e at. let q = drops.from_old p e at in all_entry (λ (y : Entry). y.1.next ≡ y.1.live) mid q.0 e q.2 (cut_unstaged from to place old mid cut a));
  ascending = λ a. all_entries (λ (e : Entry). AreAscending e.1.live) new (λ p e at. let q = drops.from_old p e at in all_entry (λ (y : Entry). AreAscending y.1.live) mid q.0 e q.2 (cut_ascending from to place old mid cut a));
  some = λ a. all_entries (λ (e : Entry). e.1.live ≢ []) new (λ p e at.
      let q = drops.from_old p e at in
      ⊎_elim (λ (s : q.0 ≡ place). absurd (q.1 s)) (λ (y : e.1.live ≢ []). y) (cut_others from to place old mid cut a q.0 e q.2));
}

pub removes_part : (key : List ℕ) (from to : ℤ) (place : ℕ) (old new : List Entry) (left : ℕ) → HasKey old place key → KeysApart old → ChangesAt (cut_of from to) place old new → left ≢ 0 → ((e : Entry) → slice_get new place ≡ Some e → left ≡ length e.1.live) → RemovesKey key from to old new
removes_part key from to place old new left has apart cut some lasts = record {
  points = cut_points key from to place old new has apart cut;
  unstaged = cut_unstaged from to place old new cut;
  ascending = cut_ascending from to place old new cut;
  some = λ a. all_entries (λ (e : Entry). e.1.live ≢ []) new (λ p e at.
      ⊎_elim
      (λ (s : p ≡ place). λ none. some (lasts e (subst (λ (n : ℕ). slice_get new n ≡ Some e) s at) ∙ ap length none))
      (λ (y : e.1.live ≢ []). y) (cut_others from to place old new cut a p e at));
}

pub nothing_long : (xs : List Row) → length xs ≡ 0 → xs ≡ []
nothing_long [] e = refl
nothing_long (x ∷ xs) e = absurd (omega arith)

pub if_some : {X : Type 0} (P Q : X → Type 0) (r : Option X) → ((x : X) → P x → Q x) → IfSome r P → IfSome r Q
if_some P Q None f h = tt
if_some P Q (Some x) f h = f x h

-- a change of the points that are counted
pub cut_counted : (from to : ℤ) (old : List Entry) (place : ℕ) (e : Entry) (w : Staged) (n : ℕ) → slice_get old place ≡ Some e → n + length w.live ≡ length e.1.live
    → n + sum_by (λ (x : Entry). length x.1.live) (set_value_at old place w) ≡ sum_by (λ (x : Entry). length x.1.live) old
cut_counted from to old place e w n at is = let set = sum-set (λ (x : Staged). length x.live) old place e w at in omega (arith, set, is)

pub none_of : {X : Type 0} (o : Option X) → is_some o ≡ false → o ≡ None
none_of None e = refl
none_of (Some x) e = absurd (false≢true (sym e))

-- a key without points loses none
pub without_none : (own : List ℕ) (from to : ℤ) (other : List ℕ) (points : List ℕ → List Row) → points own ≡ [] → points other ≡ points_without own from to other (points other)
without_none own from to other points none = by (pointwise nat_eq other own) refl
  where
    by : (b : Bool) → pointwise nat_eq other own ≡ b → points other ≡ (if b then rows_outside from to (points other) else points other)
    by true e = let empty : points other ≡ [] = ap points (same_key other own e) ∙ none in empty ∙ sym (ap (rows_outside from to) empty)
    by false e = refl
