-- Runs that are frozen, in the order of their keys.
use Rattle.std.proofs.Common.{◌≡◌, ℕ, zero, suc, ◌+◌, ◌<◌, Bool, true, false, cond, List, [], ◌∷◌, map, length, get_or, reverse, Option, nat_eq, refl, sym, ap, ◌∙◌, subst, ⊎_elim, arith, Vec, Global}
use Rattle.std.specs.List.{AllByRecursion, dedup, dedup_from}
use Rattle.std.specs.List.Sorted.{IsPermutation, IsSorted, IsStrictlySortedBy}
use Rattle.std.specs.Map.{keys_of, lookup}
use Rattle.std.specs.Ordering.{nat_cmp, is_lt}
use Rattle.std.specs.Cmp.Lexicographic.{pointwise, slice_cmp}
use Rattle.std.proofs.lemmas.Bool.{cases_Bool, false≢true}
use Rattle.std.proofs.lemmas.Cmp.{nat_list_cmp_total}
use Rattle.std.proofs.lemmas.List.{reverse-append}
use Rattle.std.proofs.lemmas.List.Elements.{All-from_recursion, recursion_from_All}
use Rattle.std.proofs.lemmas.List.Kept.{IsStrictlySortedBy-dedup}
use Rattle.std.proofs.lemmas.List.Sorted.{All-permutation, sum_by-IsPermutation}
use Rattle.std.proofs.lemmas.Map.Text.{is_eq-slice_cmp}
use Rattle.point_cache.specs.declared.key_points.KeyRun.{KeyRun}
use Rattle.point_cache.specs.Cached.{IsRun, KeysAscend}
use Rattle.point_cache.specs.Leaving.{IsFrozen}
use Rattle.point_cache.specs.Staged.{Staged, Entry, Slot, KeysApart, entries_of, lives}
use Rattle.point_cache.proofs.EntryLemmas.{key_same, same_key, staged_or}
use Rattle.point_cache.proofs.PlainLemmas.{count_lives, points_lives}
use Rattle.point_cache.proofs.TakeLemmas.{count_slots, every_key}

-- ---- sorted keys that differ ascend

other_way : (x y : List ℕ) → pointwise nat_eq x y ≡ false → pointwise nat_eq y x ≡ false
other_way x y e = ⊎_elim (λ (t : pointwise nat_eq y x ≡ true). absurd (false≢true (sym e ∙ key_same x y (sym (same_key y x t))))) (λ (f : pointwise nat_eq y x ≡ false). f) (cases_Bool (pointwise nat_eq y x))

dedup_apart : (x : Entry) (es : List Entry) → KeysApart (x ∷ es) → dedup_from (pointwise nat_eq) x.0 (map (λ (e : Entry). e.0) es) ≡ x.0 ∷ map (λ (e : Entry). e.0) es
dedup_apart x [] a = refl
dedup_apart x (y ∷ es) a =
    ap (λ (b : Bool). cond b (dedup_from (pointwise nat_eq) x.0 (map (λ (e : Entry). e.0) es)) (x.0 ∷ dedup_from (pointwise nat_eq) y.0 (map (λ (e : Entry). e.0) es))) (other_way x.0 y.0 a.0.0)
    ∙ ap (λ (l : List (List ℕ)). x.0 ∷ l) (dedup_apart y es a.1)

all_apart : (es : List Entry) → KeysApart es → dedup (pointwise nat_eq) (map (λ (e : Entry). e.0) es) ≡ map (λ (e : Entry). e.0) es
all_apart [] a = refl
all_apart (x ∷ es) a = dedup_apart x es a

length-keys : (slots : List Slot) → length (map (λ (e : Entry). e.0) (entries_of slots)) ≡ length (keys_of slots)
length-keys [] = refl
length-keys (s ∷ slots) = ap suc (length-keys slots)

key_at_is : (slots : List Slot) (k : ℕ) (d : List ℕ) (v : Vec ℕ Global) → k < length (keys_of slots) → get_or (map (λ (e : Entry). e.0) (entries_of slots)) k d ≡ (get_or (keys_of slots) k v).items
key_at_is [] k d v h = absurd (omega arith)
key_at_is (s ∷ slots) zero d v h = refl
key_at_is (s ∷ slots) (suc k) d v h = key_at_is slots k d v (omega arith)

sorted_names : (slots : List Slot) → IsSorted (λ (x y : Vec ℕ Global). slice_cmp nat_cmp x.items y.items) (keys_of slots) → IsSorted (slice_cmp nat_cmp) (map (λ (e : Entry). e.0) (entries_of slots))
sorted_names [] s k d a b = absurd (omega arith)
sorted_names (x ∷ slots) s k d a b =
    let long = length-keys (x ∷ slots) in
    let high : k + 1 < length (keys_of (x ∷ slots)) = omega (arith, long) in
    let at = s k x.0 a high in
    let one = key_at_is (x ∷ slots) (k + 1) d x.0 high in
    let two = key_at_is (x ∷ slots) k d x.0 (omega (arith, high)) in
    ap (λ (l : List ℕ). is_lt (slice_cmp nat_cmp l (get_or (map (λ (e : Entry). e.0) (entries_of (x ∷ slots))) k d))) one
    ∙ ap (λ (l : List ℕ). is_lt (slice_cmp nat_cmp (get_or (keys_of (x ∷ slots)) (k + 1) x.0).items l)) two ∙ at

names_of : (es : List Entry) → map (λ (r : KeyRun). r.key) (lives es) ≡ map (λ (e : Entry). e.0) es
names_of [] = refl
names_of (e ∷ es) = ap (λ (l : List (List ℕ)). e.0 ∷ l) (names_of es)

keys_ascend : (slots : List Slot) → KeysApart (entries_of slots) → IsSorted (λ (x y : Vec ℕ Global). slice_cmp nat_cmp x.items y.items) (keys_of slots) → KeysAscend (lives (entries_of slots))
keys_ascend slots apart sorted =
    subst (IsStrictlySortedBy (slice_cmp nat_cmp)) (all_apart (entries_of slots) apart ∙ sym (names_of (entries_of slots)))
    (IsStrictlySortedBy-dedup nat_list_cmp_total (λ x y. sym (is_eq-slice_cmp x y)) (map (λ (e : Entry). e.0) (entries_of slots)) (sorted_names slots sorted))

-- ---- the same runs in another order

all_runs : (slots : List Slot) → AllByRecursion IsRun (lives (entries_of slots)) → AllByRecursion (λ (s : Slot). IsRun (record { key = s.0.items; points = s.1.live })) slots
all_runs [] a = tt
all_runs (s ∷ slots) a = (a.0, all_runs slots a.1)

runs_all : (slots : List Slot) → AllByRecursion (λ (s : Slot). IsRun (record { key = s.0.items; points = s.1.live })) slots → AllByRecursion IsRun (lives (entries_of slots))
runs_all [] a = tt
runs_all (s ∷ slots) a = (a.0, runs_all slots a.1)

pub frozen : (old new : List Slot) → IsPermutation old new → ((q : Vec ℕ Global) → lookup (λ (k : Vec ℕ Global). pointwise nat_eq q.items k.items) new ≡ lookup (λ (k : Vec ℕ Global). pointwise nat_eq q.items k.items) old)
    → KeysApart (entries_of new) → IsSorted (λ (x y : Vec ℕ Global). slice_cmp nat_cmp x.items y.items) (keys_of new) → IsFrozen (lives (entries_of old)) (lives (entries_of new))
frozen old new shuffled same apart sorted = record {
  points = λ key.
      points_lives (entries_of new) key
      ∙ every_key new old (λ (x y : Staged). x.live ≡ y.live) refl (λ q. ap (λ (o : Option Staged). (staged_or o).live) (same q)) key
      ∙ sym (points_lives (entries_of old) key);
  ordered = keys_ascend new apart sorted;
  each = λ a.
      let P : Slot → Type 0 = λ (s : Slot). IsRun (record { key = s.0.items; points = s.1.live }) in
      runs_all new (recursion_from_All P new (All-permutation P old new shuffled (All-from_recursion P old (all_runs old a))));
  counted = count_lives (entries_of new) ∙ count_slots new ∙ sum_by-IsPermutation (λ (s : Slot). length s.1.live) old new shuffled ∙ sym (count_slots old) ∙ sym (count_lives (entries_of old));
}

-- turned round twice
pub reversed : {X : Type 0} (xs : List X) → reverse (reverse xs) ≡ xs
reversed [] = refl
reversed (x ∷ xs) = ap reverse (reverse-append (x ∷ []) xs) ∙ reverse-append (reverse xs) (x ∷ []) ∙ ap (λ l. x ∷ l) (reversed xs)
