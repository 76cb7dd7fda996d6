-- Entries: one that is changed, one that is added, and the sums over them.
use Rattle.std.proofs.Common.{◌≡◌, ◌≢◌, ℕ, zero, suc, ◌+◌, ◌<◌, ◌≤◌, Bool, true, false, cond, List, [], ◌∷◌, ◌++◌, map, length, take, drop, sum_by, position, Option, Some, None, slice_get, get_or, nat_eq, ◌⊎◌, inl, inr, length-append, refl, sym, ap, ◌∙◌, subst, ⊎_elim, arith, Vec, Global, if◌then◌else◌}
use Rattle.std.specs.List.{AllByRecursion, IsDistinct}
use Rattle.std.specs.Map.{keys_of, lookup}
use Rattle.std.specs.Cmp.Lexicographic.{pointwise}
use Rattle.std.proofs.lemmas.Slice.Eq.{bytes_eq-Decides}
use Rattle.std.proofs.lemmas.Option.{slice_get-get_or}
use Rattle.std.proofs.lemmas.List.Quantifiers.{position-Some}
use Rattle.std.proofs.lemmas.List.Sums.{sum_by-cons, sum_by_push}
use Rattle.indexmap.specs.Layout.{set_value_at}
use Rattle.point_model.specs.Rows.{Row}
use Rattle.point_cache.specs.declared.key_points.KeyRun.{KeyRun}
use Rattle.point_cache.specs.Staged.{Staged, Entry, Slot, Among, AreCovered, IsCovered, IsStaging, KeysApart, entries_of, lives, nexts, no_rows, staged_at}
use Rattle.tsdb_types.specs.Keys.{key_of, mark}
use Rattle.std.proofs.lemmas.List.{take-append-drop}
use Rattle.point_cache.specs.Steps.{AddsKey, StagesAt}

-- ---- equal keys

pub same_key : (xs ys : List ℕ) → pointwise nat_eq xs ys ≡ true → xs ≡ ys
same_key xs ys e = (bytes_eq-Decides xs ys).0 e

pub key_same : (xs ys : List ℕ) → xs ≡ ys → pointwise nat_eq xs ys ≡ true
key_same xs ys e = (bytes_eq-Decides xs ys).1 e

-- a key that was cut at its series and at the mark
pub key_parts : (key series behind field own : List ℕ) → pointwise nat_eq (take (length series) key) series ≡ true → behind ≡ drop (length series) key
    → pointwise nat_eq (take 4 behind) mark ≡ true → field ≡ drop 4 behind → field ≡ own → key ≡ key_of series own
key_parts key series behind field own first cut second cut' is =
    let inner : mark ++ own ≡ drop (length series) key =
    (λ i. (sym (same_key (take 4 behind) mark second)) i ++ ((sym is) ∙ cut') i) ∙ take-append-drop 4 behind ∙ cut in
    sym (take-append-drop (length series) key) ∙ (λ i. same_key (take (length series) key) series first i ++ (sym inner) i)

-- ---- as the map holds them

pub entries_of-set : (slots : List Slot) (p : ℕ) (w : Staged) → entries_of (set_value_at slots p w) ≡ set_value_at (entries_of slots) p w
entries_of-set [] p w = refl
entries_of-set (s ∷ slots) zero w = refl
entries_of-set (s ∷ slots) (suc p) w = ap (λ (es : List Entry). (s.0.items, s.1) ∷ es) (entries_of-set slots p w)

pub entries_of-append : (slots more : List Slot) → entries_of (slots ++ more) ≡ entries_of slots ++ entries_of more
entries_of-append [] more = refl
entries_of-append (s ∷ slots) more = ap (λ (es : List Entry). (s.0.items, s.1) ∷ es) (entries_of-append slots more)

pub length-entries_of : (slots : List Slot) → length (entries_of slots) ≡ length slots
length-entries_of [] = refl
length-entries_of (s ∷ slots) = ap suc (length-entries_of slots)

pub entry_of : (slots : List Slot) (p : ℕ) (slot : Slot) → slice_get slots p ≡ Some slot → slice_get (entries_of slots) p ≡ Some (slot.0.items, slot.1)
entry_of [] p slot e = absurd cc
entry_of (s ∷ slots) zero slot e = let same : s ≡ slot = cc in ap (λ (x : Slot). Some (x.0.items, x.1)) same
entry_of (s ∷ slots) (suc p) slot e = entry_of slots p slot e

-- the value at a place has a key
pub slot_of : (slots : List Slot) (p : ℕ) (w : Staged) → slice_get (map (λ (s : Slot). s.1) slots) p ≡ Some w → (key : List ℕ) × (slice_get (entries_of slots) p ≡ Some (key, w))
slot_of [] p w e = absurd cc
slot_of (s ∷ slots) zero w e = let same : s.1 ≡ w = cc in (s.0.items, ap (λ (x : Staged). Some (s.0.items, x)) same)
slot_of (s ∷ slots) (suc p) w e = slot_of slots p w e

apart_from : (k : Vec ℕ Global) (slots : List Slot) → AllByRecursion (λ (y : Vec ℕ Global). pointwise nat_eq k.items y.items ≡ false) (keys_of slots) → AllByRecursion (λ (other : Entry). pointwise nat_eq k.items other.0 ≡ false) (entries_of slots)
apart_from k [] a = tt
apart_from k (s ∷ slots) a = (a.0, apart_from k slots a.1)

pub keys_apart : (slots : List Slot) → IsDistinct (λ (x y : Vec ℕ Global). pointwise nat_eq x.items y.items) (keys_of slots) → KeysApart (entries_of slots)
unfolding IsDistinct
keys_apart [] d = tt
keys_apart (s ∷ slots) d = (apart_from s.0 slots d.0, keys_apart slots d.1)

-- ---- one that is changed

pub set_same : (es : List Entry) (p : ℕ) (e : Entry) (w : Staged) → slice_get es p ≡ Some e → slice_get (set_value_at es p w) p ≡ Some (e.0, w)
set_same [] p e w h = absurd cc
set_same (x ∷ es) zero e w h = let same : x ≡ e = cc in ap (λ (y : Entry). Some (y.0, w)) same
set_same (x ∷ es) (suc p) e w h = set_same es p e w h

pub set_other : (es : List Entry) (p q : ℕ) (w : Staged) (e : Entry) → slice_get (set_value_at es p w) q ≡ Some e → (p ≡ q) ⊎ (slice_get es q ≡ Some e)
set_other [] p q w e h = inr h
set_other (x ∷ es) zero zero w e h = inl refl
set_other (x ∷ es) zero (suc q) w e h = inr h
set_other (x ∷ es) (suc p) zero w e h = inr h
set_other (x ∷ es) (suc p) (suc q) w e h = ⊎_elim (λ (s : p ≡ q). inl (ap suc s)) (λ (s : slice_get es q ≡ Some e). inr s) (set_other es p q w e h)

-- what an entry of the changed ones is: the changed one, or an old one
pub set_entry : (es : List Entry) (p q : ℕ) (w : Staged) (old e : Entry) → slice_get es p ≡ Some old → slice_get (set_value_at es p w) q ≡ Some e → ((p ≡ q) × (e ≡ (old.0, w))) ⊎ (slice_get es q ≡ Some e)
set_entry es p q w old e was h =
    ⊎_elim
    (λ (s : p ≡ q). let here : slice_get (set_value_at es p w) p ≡ Some e = subst (λ (n : ℕ). slice_get (set_value_at es p w) n ≡ Some e) (sym s) h in let there = set_same es p old w was in let same : e ≡ (old.0, w) = cc in inl (s, same))
    (λ (s : slice_get es q ≡ Some e). inr s) (set_other es p q w e h)

pub lives-set : (es : List Entry) (p : ℕ) (e : Entry) (w : Staged) → slice_get es p ≡ Some e → w.live ≡ e.1.live → lives (set_value_at es p w) ≡ lives es
lives-set [] p e w h same = refl
lives-set (x ∷ es) zero e w h same =
    let own : x ≡ e = cc in
    ap (λ (rows : List Row). record { key = x.0; points = rows } ∷ lives es) (same ∙ ap (λ (y : Entry). y.1.live) (sym own))
lives-set (x ∷ es) (suc p) e w h same = ap (λ (rs : List KeyRun). record { key = x.0; points = x.1.live } ∷ rs) (lives-set es p e w h same)

pub nexts-set : (es : List Entry) (p : ℕ) (e : Entry) (w : Staged) → slice_get es p ≡ Some e → w.next ≡ e.1.next → nexts (set_value_at es p w) ≡ nexts es
nexts-set [] p e w h same = refl
nexts-set (x ∷ es) zero e w h same =
    let own : x ≡ e = cc in
    ap (λ (rows : List Row). record { key = x.0; points = rows } ∷ nexts es) (same ∙ ap (λ (y : Entry). y.1.next) (sym own))
nexts-set (x ∷ es) (suc p) e w h same = ap (λ (rs : List KeyRun). record { key = x.0; points = x.1.next } ∷ rs) (nexts-set es p e w h same)

pub sum-set : (f : Staged → ℕ) (es : List Entry) (p : ℕ) (e : Entry) (w : Staged) → slice_get es p ≡ Some e → sum_by (λ (x : Entry). f x.1) (set_value_at es p w) + f e.1 ≡ sum_by (λ (x : Entry). f x.1) es + f w
sum-set f [] p e w h = absurd cc
sum-set f (x ∷ es) zero e w h =
    let own : x ≡ e = cc in
    let same : f x.1 ≡ f e.1 = ap (λ (y : Entry). f y.1) own in
    let one = sum_by-cons (λ (y : Entry). f y.1) (x.0, w) es in
    let two = sum_by-cons (λ (y : Entry). f y.1) x es in
    omega (arith, one, two)
sum-set f (x ∷ es) (suc p) e w h =
    let rest = sum-set f es p e w h in
    let one = sum_by-cons (λ (y : Entry). f y.1) x (set_value_at es p w) in
    let two = sum_by-cons (λ (y : Entry). f y.1) x es in
    omega (arith, one, two)

pub sum-at : (f : Staged → ℕ) (es : List Entry) (p : ℕ) (e : Entry) → slice_get es p ≡ Some e → f e.1 ≤ sum_by (λ (x : Entry). f x.1) es
sum-at f [] p e h = absurd cc
sum-at f (x ∷ es) zero e h =
    let own : x ≡ e = cc in
    let same : f x.1 ≡ f e.1 = ap (λ (y : Entry). f y.1) own in
    let one = sum_by-cons (λ (y : Entry). f y.1) x es in
    omega (arith, one)
sum-at f (x ∷ es) (suc p) e h =
    let rest = sum-at f es p e h in
    let one = sum_by-cons (λ (y : Entry). f y.1) x es in
    omega (arith, one)

pub all-set : (P : Entry → Type 0) (es : List Entry) (p : ℕ) (e : Entry) (w : Staged) → slice_get es p ≡ Some e → P (e.0, w) → AllByRecursion P es → AllByRecursion P (set_value_at es p w)
all-set P [] p e w h one all = tt
all-set P (x ∷ es) zero e w h one all = let own : e ≡ x = cc in (subst (λ (y : Entry). P (y.0, w)) own one, all.1)
all-set P (x ∷ es) (suc p) e w h one all = (all.0, all-set P es p e w h one all.1)

pub all_entry : (P : Entry → Type 0) (es : List Entry) (p : ℕ) (e : Entry) → slice_get es p ≡ Some e → AllByRecursion P es → P e
all_entry P [] p e h all = absurd cc
all_entry P (x ∷ es) zero e h all = let own : x ≡ e = cc in subst P own all.0
all_entry P (x ∷ es) (suc p) e h all = all_entry P es p e h all.1

pub all_entries : (P : Entry → Type 0) (es : List Entry) → ((p : ℕ) (e : Entry) → slice_get es p ≡ Some e → P e) → AllByRecursion P es
all_entries P [] h = tt
all_entries P (x ∷ es) h = (h zero x refl, all_entries P es (λ p e a. h (suc p) e a))

-- ---- one that is added

pub push_last : (es : List Entry) (x : Entry) → slice_get (es ++ x ∷ []) (length es) ≡ Some x
push_last [] x = refl
push_last (e ∷ es) x = push_last es x

pub push_entry : (es : List Entry) (x : Entry) (p : ℕ) (e : Entry) → slice_get (es ++ x ∷ []) p ≡ Some e → (slice_get es p ≡ Some e) ⊎ (e ≡ x)
push_entry [] x zero e h = let own : e ≡ x = cc in inr own
push_entry [] x (suc p) e h = absurd cc
push_entry (y ∷ es) x zero e h = inl h
push_entry (y ∷ es) x (suc p) e h = push_entry es x p e h

pub push_front : (es : List Entry) (x : Entry) (p : ℕ) (e : Entry) → slice_get es p ≡ Some e → slice_get (es ++ x ∷ []) p ≡ Some e
push_front [] x p e h = absurd cc
push_front (y ∷ es) x zero e h = h
push_front (y ∷ es) x (suc p) e h = push_front es x p e h

-- ---- places

pub among-front : (xs : List ℕ) (x p : ℕ) → Among xs p → Among (xs ++ x ∷ []) p
among-front [] x p a = absurd a
among-front (y ∷ xs) x p (inl e) = inl e
among-front (y ∷ xs) x p (inr a) = inr (among-front xs x p a)

pub among-last : (xs : List ℕ) (x : ℕ) → Among (xs ++ x ∷ []) x
among-last [] x = inl refl
among-last (y ∷ xs) x = inr (among-last xs x)

-- ---- what holds of runs

pub staging_touch : (es : List Entry) (touched more : List ℕ) (a b : ℕ) → ((p : ℕ) → Among touched p → Among more p) → IsStaging es touched a b → IsStaging es more a b
staging_touch es touched more a b kept s = record {
  each = λ p e h. let c = s.each p e h in record { ascending = c.ascending; covered = ⊎_elim (λ (n : e.1.next ≡ e.1.live). inl n) (λ (m : Among touched p). inr (kept p m)) c.covered };
  counted = s.counted;
  next_counted = s.next_counted;
}

-- a place where points are staged is touched
pub staged_touched : (es : List Entry) (touched : List ℕ) (p : ℕ) → AreCovered touched es → (e : Entry) × (slice_get es p ≡ Some e) × (e.1.next ≢ e.1.live) → Among touched p
staged_touched es touched p covered there = ⊎_elim (λ (n : there.0.1.next ≡ there.0.1.live). absurd (there.2 n)) (λ (m : Among touched p). m) (covered p there.0 there.1).covered

pub among-push : (touched more : List ℕ) (x : ℕ) → more ≡ touched ++ x ∷ [] → (p : ℕ) → Among touched p → Among more p
among-push touched more x is p a = subst (λ (l : List ℕ). Among l p) (sym is) (among-front touched x p a)

pub among-at : (touched : List ℕ) (at : ℕ) → at < length touched → Among touched (get_or touched at 0)
among-at [] at h = absurd (omega arith)
among-at (x ∷ xs) zero h = inl refl
among-at (x ∷ xs) (suc at) h = inr (among-at xs at (omega arith))

staging_add : (es : List Entry) (touched : List ℕ) (key : List ℕ) (a b : ℕ) → IsStaging es touched a b → IsStaging (es ++ (key, no_rows) ∷ []) touched a b
staging_add es touched key a b s = record {
  each = λ p e h. ⊎_elim
      (λ (old : slice_get es p ≡ Some e). s.each p e old)
      (λ (own : e ≡ (key, no_rows)). subst (λ (y : Entry). IsCovered touched p y) (sym own) (record { ascending = tt; covered = inl refl }))
      (push_entry es (key, no_rows) p e h);
  counted = let more = sum_by_push (λ (x : Entry). length x.1.live) es (key, no_rows) in let was = s.counted in omega arith;
  next_counted = let more = sum_by_push (λ (x : Entry). length x.1.next) es (key, no_rows) in let was = s.next_counted in omega arith;
}

pub staging_adds : (key : List ℕ) (old new : List Entry) (touched : List ℕ) (a b : ℕ) → AddsKey key old new → IsStaging old touched a b → IsStaging new touched a b
staging_adds key old new touched a b (inl same) s = subst (λ (es : List Entry). IsStaging es touched a b) (sym same) s
staging_adds key old new touched a b (inr more) s = subst (λ (es : List Entry). IsStaging es touched a b) (sym more) (staging_add old touched key a b s)

pub staging_put : (place : ℕ) (row : Row) (old new : List Entry) (touched : List ℕ) (a b : ℕ) → StagesAt place row old new → Among touched place → IsStaging old touched a b → IsStaging new touched a (b + 1)
staging_put place row old new touched a b put among s =
    let w : Staged = record { live = put.entry.1.live; next = put.entry.1.next ++ row ∷ [] } in
    let c = s.each place put.entry put.was in
    subst (λ (es : List Entry). IsStaging es touched a (b + 1)) (sym put.is) (record {
      each = λ p e h. ⊎_elim
          (λ (own : (place ≡ p) × (e ≡ (put.entry.0, w))). subst (λ (y : Entry). IsCovered touched p y) (sym own.1) (record { ascending = c.ascending; covered = inr (subst (Among touched) own.0 among) }))
          (λ (was : slice_get old p ≡ Some e). s.each p e was)
          (set_entry old place p w put.entry e put.was h);
      counted = let sum = sum-set (λ (x : Staged). length x.live) old place put.entry w put.was in let was = s.counted in omega arith;
      next_counted =
          let sum = sum-set (λ (x : Staged). length x.next) old place put.entry w put.was in
          let was = s.next_counted in
          let more = length-append put.entry.1.next (row ∷ []) in
          omega arith;
    })

-- what was there, put there again
pub set_back : (es : List Entry) (p : ℕ) (e : Entry) → slice_get es p ≡ Some e → set_value_at es p e.1 ≡ es
set_back [] p e h = refl
set_back (x ∷ es) zero e h = let own : x ≡ e = cc in ap (λ (w : Staged). (x.0, w) ∷ es) (ap (λ (y : Entry). y.1) (sym own))
set_back (x ∷ es) (suc p) e h = ap (λ (ys : List Entry). x ∷ ys) (set_back es p e h)

-- ---- the place of a key

place_at : (slots : List Slot) (key : List ℕ) (p : ℕ) (d : Vec ℕ Global) → p < length (keys_of slots) → pointwise nat_eq key (get_or (keys_of slots) p d).items ≡ true → (staged : Staged) × (slice_get (entries_of slots) p ≡ Some (key, staged))
place_at [] key p d h e = absurd (omega arith)
place_at (s ∷ slots) key zero d h e = (s.1, ap (λ (k : List ℕ). Some (k, s.1)) (sym (same_key key s.0.items e)))
place_at (s ∷ slots) key (suc p) d h e = place_at slots key p d (omega arith) e

pub place_has : (slots : List Slot) (key : List ℕ) (p : ℕ) → position (λ (k : Vec ℕ Global). pointwise nat_eq key k.items) (keys_of slots) ≡ Some p → (staged : Staged) × (slice_get (entries_of slots) p ≡ Some (key, staged))
place_has [] key p h = absurd cc
place_has (s ∷ slots) key p h =
    let at = position-Some (λ (k : Vec ℕ Global). pointwise nat_eq key k.items) (keys_of (s ∷ slots)) p s.0 h in
    place_at (s ∷ slots) key p s.0 at.0 at.1

-- ---- what keys will have

pub key_found : (key own : List ℕ) (b : Bool) → pointwise nat_eq key own ≡ b → (x y : Staged) → (if pointwise nat_eq key own then x else y) ≡ (if b then x else y)
key_found key own b e x y = ap (λ (c : Bool). if c then x else y) e

-- no entry has the key, so it has nothing
pub none_staged : (es : List Entry) (key own : List ℕ) → pointwise nat_eq key own ≡ true → AllByRecursion (λ other. pointwise nat_eq own other.0 ≡ false) es → staged_at es key ≡ no_rows
none_staged [] key own e a = refl
none_staged (x ∷ es) key own e a =
    let other : pointwise nat_eq key x.0 ≡ false = subst (λ (k : List ℕ). pointwise nat_eq k x.0 ≡ false) (sym (same_key key own e)) a.0 in
    key_found key x.0 false other x.1 (staged_at es key) ∙ none_staged es key own e a.1

-- a change at a place is one of its key, and of no other
pub staged_at-set : (es : List Entry) (p : ℕ) (e : Entry) (w : Staged) → slice_get es p ≡ Some e → KeysApart es → (key : List ℕ) → staged_at (set_value_at es p w) key ≡ (if pointwise nat_eq key e.0 then w else staged_at es key)
staged_at-set [] p e w h a key = absurd cc
staged_at-set (x ∷ es) zero e w h a key = let own : x ≡ e = cc in by (pointwise nat_eq key e.0) refl (ap (λ (y : Entry). y.0) own)
  where
    by : (b : Bool) → pointwise nat_eq key e.0 ≡ b → x.0 ≡ e.0 → (if pointwise nat_eq key x.0 then w else staged_at es key) ≡ (if pointwise nat_eq key e.0 then w else if pointwise nat_eq key x.0 then x.1 else staged_at es key)
    by true is same =
        ap (λ (k : List ℕ). if pointwise nat_eq key k then w else staged_at es key) same ∙ key_found key e.0 true is w (staged_at es key)
        ∙ sym (key_found key e.0 true is w (if pointwise nat_eq key x.0 then x.1 else staged_at es key))
    by false is same =
        ap (λ (k : List ℕ). if pointwise nat_eq key k then w else staged_at es key) same ∙ key_found key e.0 false is w (staged_at es key)
        ∙ sym (key_found key x.0 false (ap (pointwise nat_eq key) same ∙ is) x.1 (staged_at es key))
        ∙ sym (key_found key e.0 false is w (if pointwise nat_eq key x.0 then x.1 else staged_at es key))
staged_at-set (x ∷ es) (suc p) e w h a key = by (pointwise nat_eq key x.0) refl (staged_at-set es p e w h a.1 key)
  where
    by : (b : Bool) → pointwise nat_eq key x.0 ≡ b → staged_at (set_value_at es p w) key ≡ (if pointwise nat_eq key e.0 then w else staged_at es key)
        → (if pointwise nat_eq key x.0 then x.1 else staged_at (set_value_at es p w) key) ≡ (if pointwise nat_eq key e.0 then w else if pointwise nat_eq key x.0 then x.1 else staged_at es key)
    by true is rest =
        let there : pointwise nat_eq x.0 e.0 ≡ false = all_entry (λ (o : Entry). pointwise nat_eq x.0 o.0 ≡ false) es p e h a.0 in
        let other : pointwise nat_eq key e.0 ≡ false = subst (λ (k : List ℕ). pointwise nat_eq k e.0 ≡ false) (sym (same_key key x.0 is)) there in
        sym (key_found key x.0 true is x.1 (staged_at es key) ∙ sym (key_found key x.0 true is x.1 (staged_at (set_value_at es p w) key)))
        ∙ sym (key_found key e.0 false other w (if pointwise nat_eq key x.0 then x.1 else staged_at es key))
    by false is rest =
        key_found key x.0 false is x.1 (staged_at (set_value_at es p w) key) ∙ rest
        ∙ ap (λ (s : Staged). if pointwise nat_eq key e.0 then w else s) (sym (key_found key x.0 false is x.1 (staged_at es key)))

-- an entry without points changes nothing
pub staged_at-add : (es : List Entry) (own key : List ℕ) → staged_at (es ++ (own, no_rows) ∷ []) key ≡ staged_at es key
staged_at-add [] own key = by (pointwise nat_eq key own) refl
  where
    by : (b : Bool) → pointwise nat_eq key own ≡ b → (if pointwise nat_eq key own then no_rows else no_rows) ≡ no_rows
    by true e = key_found key own true e no_rows no_rows
    by false e = key_found key own false e no_rows no_rows
staged_at-add (x ∷ es) own key = ap (λ (s : Staged). if pointwise nat_eq key x.0 then x.1 else s) (staged_at-add es own key)

-- what a look-up found, or nothing
abbrev pub staged_or : Option Staged → Staged
staged_or None = no_rows
staged_or (Some staged) = staged

pub staged_found : (slots : List Slot) (key : List ℕ) → staged_at (entries_of slots) key ≡ staged_or (lookup (λ (k : Vec ℕ Global). pointwise nat_eq key k.items) slots)
staged_found [] key = refl
staged_found (s ∷ slots) key = by (pointwise nat_eq key s.0.items) (staged_found slots key)
  where
    by : (b : Bool) → staged_at (entries_of slots) key ≡ staged_or (lookup (λ (k : Vec ℕ Global). pointwise nat_eq key k.items) slots)
        → (if b then s.1 else staged_at (entries_of slots) key) ≡ staged_or (cond b (Some s.1) (lookup (λ (k : Vec ℕ Global). pointwise nat_eq key k.items) slots))
    by true rest = refl
    by false rest = rest

-- no value at a place
pub none_there : (slots : List Slot) (p : ℕ) → slice_get (map (λ (s : Slot). s.1) slots) p ≡ None → slice_get (entries_of slots) p ≡ None
none_there [] p h = refl
none_there (s ∷ slots) zero h = absurd cc
none_there (s ∷ slots) (suc p) h = none_there slots p h

-- an added entry, changed
pub set-last : (es : List Entry) (x : Entry) (w : Staged) → set_value_at (es ++ x ∷ []) (length es) w ≡ es ++ (x.0, w) ∷ []
set-last [] x w = refl
set-last (e ∷ es) x w = ap (λ (ys : List Entry). e ∷ ys) (set-last es x w)

-- the entry at a place is what its key has
pub staged_at-place : (es : List Entry) (p : ℕ) (e : Entry) → slice_get es p ≡ Some e → KeysApart es → (key : List ℕ) → pointwise nat_eq key e.0 ≡ true → staged_at es key ≡ e.1
staged_at-place es p e h a key is = ap (λ (ys : List Entry). staged_at ys key) (sym (set_back es p e h)) ∙ staged_at-set es p e e.1 h a key ∙ key_found key e.0 true is e.1 (staged_at es key)

pub item_or : {X : Type 0} (xs : List X) (i : ℕ) (d one : X) → i < length xs → slice_get xs i ≡ Some one → one ≡ get_or xs i d
item_or xs i d one h at = let there = slice_get-get_or xs i d h in let e : Some one ≡ Some (get_or xs i d) = sym at ∙ there in cc
