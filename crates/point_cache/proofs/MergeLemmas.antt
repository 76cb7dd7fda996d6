-- Two lists that ascend, merged point by point, the second's where both have the time.
use Rattle.std.proofs.Common.{◌≡◌, ℕ, zero, suc, ◌+◌, ◌<◌, ◌≤◌, ℤ, ◌≤ℤ◌, ◌<ℤ◌, Bool, true, false, List, [], ◌∷◌, ◌++◌, length, take, drop, get_or, slice_get, Option, Some, None, append_assoc, append-nil, length-append, refl, sym, ap, ◌∙◌, subst, ⊎_elim, arith, if◌then◌else◌, ◌⊎◌, is_some}
use Rattle.std.specs.List.{AllByRecursion}
use Rattle.std.specs.Ordering.{int_eq}
use Rattle.std.proofs.lemmas.Int.{ints}
use Rattle.std.proofs.lemmas.Bool.{cases_Bool, false≢true}
use Rattle.std.proofs.lemmas.List.{take-append-drop}
use Rattle.tombstones.proofs.RangeLemmas.{all-append, all-back, all-weaker}
use Rattle.tsdb_types.specs.declared.value.Value.{Value}
use Rattle.point_model.specs.Rows.{Row}
use Rattle.point_cache.specs.Cached.{AreAscending, later, latest}
use Rattle.point_cache.specs.Sorted.{AppendsFirsts, first_at}
use Rattle.point_cache.specs.Merged.{IsOrdered, IsUnion, PutsBehind}
use Rattle.point_cache.proofs.OrderLemmas.{ascending-append, ascending-back, ascending-front, ascending-take, before_time}
use Rattle.point_cache.proofs.LatestLemmas.{latest-append, later-none, same_time, time_same, value_of}

-- ---- times at which there is no point

other_time : (s t : ℤ) → (s ≡ t → false ≡ true) → int_eq s t ≡ false
other_time s t differs = ⊎_elim (λ (e : int_eq s t ≡ true). absurd (false≢true (differs (same_time s t e)))) (λ (e : int_eq s t ≡ false). e) (cases_Bool (int_eq s t))

none_else : (x : Row) (t : ℤ) → int_eq t x.0 ≡ false → value_of x t ≡ None
none_else x t e = ap (λ (b : Bool). if b then Some x.1 else None) e

-- no point of this time is in a list whose points all have others
none_of_time : (t : ℤ) (xs : List Row) → AllByRecursion (λ r. int_eq t r.0 ≡ false) xs → latest xs t ≡ None
none_of_time t [] a = refl
none_of_time t (x ∷ xs) a = ap (λ (v : Option Value). later v (latest xs t)) (none_else x t a.0) ∙ ap (later None) (none_of_time t xs a.1)

none_before : (t : ℤ) (xs : List Row) → AllByRecursion (λ r. t <ℤ r.0) xs → latest xs t ≡ None
none_before t xs a = none_of_time t xs (all-weaker (λ r. t <ℤ r.0) (λ r. int_eq t r.0 ≡ false) (λ r low. other_time t r.0 (λ e. absurd (omega (arith, ints)))) xs a)

some_left : (a b : Option Value) → is_some a ≡ true → is_some (later a b) ≡ true
some_left a None s = s
some_left a (Some b) s = refl

some_right : (a b : Option Value) → is_some b ≡ true → is_some (later a b) ≡ true
some_right a None s = absurd (false≢true s)
some_right a (Some b) s = refl

own_time : (x : Row) → is_some (value_of x x.0) ≡ true
own_time x = ap (λ (b : Bool). is_some (if b then Some x.1 else None)) (time_same x.0 x.0 refl)

-- each point's time has a value
each_has : (xs : List Row) → AllByRecursion (λ r. is_some (latest xs r.0) ≡ true) xs
each_has [] = tt
each_has (x ∷ xs) = (
  some_left (value_of x x.0) (latest xs x.0) (own_time x),
  all-weaker (λ r. is_some (latest xs r.0) ≡ true) (λ r. is_some (latest (x ∷ xs) r.0) ≡ true) (λ r some. some_right (value_of x r.0) (latest xs r.0) some) xs (each_has xs),
)

-- a point of a union is at no time before those of both lists
pub union_from : (first second union : List Row) (t : ℤ) → IsUnion first second union → AllByRecursion (λ r. t ≤ℤ r.0) first → AllByRecursion (λ r. t ≤ℤ r.0) second → AllByRecursion (λ r. t ≤ℤ r.0) union
union_from first second union t u a b =
    all-weaker (λ r. is_some (latest union r.0) ≡ true) (λ r. t ≤ℤ r.0) (λ r some. ⊎_elim (λ (h : t ≤ℤ r.0). h) (λ (h : r.0 <ℤ t). absurd (false≢true (none r.0 h some))) (either t r.0)) union (each_has union)
  where
    either : (s r : ℤ) → (s ≤ℤ r) ⊎ (r <ℤ s)
    either s r = grind (arith, ints)

    gone : (s : ℤ) (xs : List Row) → s <ℤ t → AllByRecursion (λ r. t ≤ℤ r.0) xs → latest xs s ≡ None
    gone s xs low all = none_before s xs (all-weaker (λ r. t ≤ℤ r.0) (λ r. s <ℤ r.0) (λ r up. omega (arith, ints)) xs all)

    none : (s : ℤ) → s <ℤ t → is_some (latest union s) ≡ true → false ≡ true
    none s low some = sym (ap is_some (u.values s ∙ ap (λ (v : Option Value). later v (latest second s)) (gone s first low a) ∙ ap (later None) (gone s second low b))) ∙ some

-- ---- one point of the second list after the other

-- the points merged so far, with what is left of the lists
pub record Merging (first second merged rest left : List Row) : Type 0 where
  pub first_on : AreAscending (merged ++ rest)
  pub second_on : AreAscending (merged ++ left)
  pub values : (t : ℤ) → later (latest (merged ++ rest) t) (latest left t) ≡ later (latest first t) (latest second t)
  pub short : length merged + length rest + length left ≤ length first + length second

pub merging_none : (first second : List Row) → AreAscending first → AreAscending second → Merging first second [] first second
merging_none first second a b = record { first_on = a; second_on = b; values = λ t. refl; short = omega arith }

-- a point and those behind it, after some that are before it
over : (front : List Row) (y : Row) (back : List Row) → AreAscending front → AllByRecursion (λ r. r.0 <ℤ y.0) front → AllByRecursion (λ r. y.0 <ℤ r.0) back → AreAscending back → AreAscending (front ++ y ∷ back)
over front y back a low up b =
    ascending-append front (y ∷ back) a (up, b) (before_time front (y ∷ back) y.0 low (omega (arith, ints), all-weaker (λ r. y.0 <ℤ r.0) (λ r. y.0 ≤ℤ r.0) (λ r h. omega (arith, ints)) back up))

step_own : (p s h y b : Option Value) → h ≡ None → b ≡ None → is_some y ≡ true → later (later p (later y h)) b ≡ later (later p (later s h)) (later y b)
step_own p s h None b eh eb some = absurd (false≢true some)
step_own p s h (Some y) b eh eb some = ap (λ (v : Option Value). later (later p (later (Some y) v)) b) eh ∙ ap (later (Some y)) eb ∙ sym (ap (λ (v : Option Value). later (later p (later s h)) (later (Some y) v)) eb)

step_other : (p s h y b : Option Value) → s ≡ None → y ≡ None → later (later p (later y h)) b ≡ later (later p (later s h)) (later y b)
step_other p s h y b es ey =
    ap (λ (v : Option Value). later (later p (later v h)) b) (ey ∙ sym es) ∙ ap (later (later p (later s h))) (sym (later-none b)) ∙ ap (λ (v : Option Value). later (later p (later s h)) (later v b)) (sym ey)

step_value : (t : ℤ) (front same rest : List Row) (y : Row) (left : List Row) → AllByRecursion (λ r. r.0 ≡ y.0) same → AllByRecursion (λ r. y.0 <ℤ r.0) rest → AllByRecursion (λ r. y.0 <ℤ r.0) left
    → later (latest (front ++ y ∷ rest) t) (latest left t) ≡ later (latest (front ++ (same ++ rest)) t) (latest (y ∷ left) t)
step_value t front same rest y left equal up over_left =
    ap (λ (v : Option Value). later v (latest left t)) (latest-append front (y ∷ rest) t)
    ∙ by (int_eq t y.0) refl
    ∙ sym (ap (λ (v : Option Value). later v (latest (y ∷ left) t)) (latest-append front (same ++ rest) t ∙ ap (later (latest front t)) (latest-append same rest t)))
  where
    behind : (xs : List Row) → t ≡ y.0 → AllByRecursion (λ r. y.0 <ℤ r.0) xs → latest xs t ≡ None
    behind xs is all = subst (λ (s : ℤ). latest xs s ≡ None) (sym is) (none_before y.0 xs all)

    by : (b : Bool) → int_eq t y.0 ≡ b → later (later (latest front t) (later (value_of y t) (latest rest t))) (latest left t) ≡ later (later (latest front t) (later (latest same t) (latest rest t))) (later (value_of y t) (latest left t))
    by true e = step_own (latest front t) (latest same t) (latest rest t) (value_of y t) (latest left t) (behind rest (same_time t y.0 e) up) (behind left (same_time t y.0 e) over_left) (ap (λ (b : Bool). is_some (if b then Some y.1 else None)) e)
    by false e = step_other (latest front t) (latest same t) (latest rest t) (value_of y t) (latest left t)
        (none_of_time t same (all-weaker (λ r. r.0 ≡ y.0) (λ r. int_eq t r.0 ≡ false) (λ r is. ap (int_eq t) is ∙ e) same equal)) (none_else y t e)

-- those before a point that follows them
all_under : (xs : List Row) (y : Row) (ys : List Row) → AreAscending (xs ++ y ∷ ys) → AllByRecursion (λ r. r.0 <ℤ y.0) xs
all_under [] y ys a = tt
all_under (x ∷ xs) y ys a = ((all-back (λ r. x.0 <ℤ r.0) xs (y ∷ ys) a.0).0, all_under xs y ys a.1)

pub merging_more : (first second merged held : List Row) (y : Row) (left rest new : List Row) → Merging first second merged held (y ∷ left) → PutsBehind held y rest merged new → Merging first second new rest left
merging_more first second merged held y left rest new m puts =
    let front = merged ++ puts.ahead in
    let whole : merged ++ held ≡ front ++ (puts.same ++ rest) = ap (λ (l : List Row). merged ++ l) puts.seam ∙ sym (append_assoc merged puts.ahead (puts.same ++ rest)) in
    let all = subst AreAscending whole m.first_on in
    let low = all-append (λ r. r.0 <ℤ y.0) merged puts.ahead (all_under merged y left m.second_on) puts.before in
    let own = ascending-front front (puts.same ++ rest) all in
    let behind = ascending-back puts.same rest (ascending-back front (puts.same ++ rest) all) in
    let others = ascending-back merged (y ∷ left) m.second_on in
    let is : (l : List Row) → new ++ l ≡ front ++ y ∷ l = λ l. ap (λ (k : List Row). k ++ l) (puts.appends ∙ sym (append_assoc merged puts.ahead (y ∷ []))) ∙ append_assoc front (y ∷ []) l in
    record {
      first_on = subst AreAscending (sym (is rest)) (over front y rest own low puts.later behind);
      second_on = subst AreAscending (sym (is left)) (over front y left own low others.0 others.1);
      values = λ t.
          ap (λ (l : List Row). later (latest l t) (latest left t)) (is rest)
          ∙ step_value t front puts.same rest y left puts.equal puts.later others.0
          ∙ ap (λ (l : List Row). later (latest l t) (latest (y ∷ left) t)) (sym whole)
          ∙ m.values t;
      short =
          let a = ap length puts.appends in
          let b = length-append merged (puts.ahead ++ y ∷ []) in
          let c = length-append puts.ahead (y ∷ []) in
          let d = ap length puts.seam in
          let e = length-append puts.ahead (puts.same ++ rest) in
          let f = length-append puts.same rest in
          let g = m.short in
          omega (arith, a, b, c, d, e, f, g);
    }

pub merging_all : (first second merged rest union : List Row) → Merging first second merged rest [] → union ≡ merged ++ rest → IsUnion first second union
merging_all first second merged rest union m is = record {
  ascending = subst AreAscending (sym is) m.first_on;
  values = λ t. ap (λ (l : List Row). latest l t) is ∙ m.values t;
  short = let a = ap length is in let b = length-append merged rest in let c = m.short in omega (arith, a, b, c);
}

-- ---- behind those that are before both

pub union_behind : (kept batch merged : List Row) (place : ℕ) (t : ℤ) → place ≤ length kept → AreAscending kept → AllByRecursion (λ r. r.0 <ℤ t) (take place kept) → AllByRecursion (λ r. t ≤ℤ r.0) (drop place kept) → AllByRecursion (λ r. t ≤ℤ r.0) batch
    → IsUnion (drop place kept) batch merged → IsUnion kept batch (take place kept ++ merged)
union_behind kept batch merged place t within ascending ahead behind from u = record {
  ascending = ascending-append (take place kept) merged (ascending-take place kept ascending) u.ascending (before_time (take place kept) merged t ahead (union_from (drop place kept) batch merged t u behind from));
  values = λ s.
      latest-append (take place kept) merged s ∙ ap (later (latest (take place kept) s)) (u.values s)
      ∙ three (latest (take place kept) s) (latest (drop place kept) s) (latest batch s)
      ∙ ap (λ (v : Option Value). later v (latest batch s)) (sym (latest-append (take place kept) (drop place kept) s) ∙ ap (λ (l : List Row). latest l s) (take-append-drop place kept));
  short =
      let a = length-append (take place kept) merged in
      let b = length-append (take place kept) (drop place kept) in
      let c = ap length (take-append-drop place kept) in
      let d = u.short in
      omega (arith, a, b, c, d);
}
  where
    three : (a b c : Option Value) → later a (later b c) ≡ later (later a b) c
    three a b None = refl
    three a b (Some c) = refl

-- nothing comes behind
pub union_none : (kept batch merged : List Row) (place : ℕ) → AreAscending kept → batch ≡ [] → merged ≡ [] → take place kept ≡ kept → IsUnion kept batch (take place kept ++ merged)
union_none kept batch merged place ascending none empty all =
    let is : take place kept ++ merged ≡ kept = (λ i. all i ++ empty i) ∙ append-nil kept in
    record {
      ascending = subst AreAscending (sym is) ascending;
      values = λ t. ap (λ (l : List Row). latest l t) is ∙ ap (λ (l : List Row). later (latest kept t) (latest l t)) (sym none);
      short = let a = ap length is in omega (arith, a);
    }

-- an ordered batch in the place of another
pub union_ordered : (kept staged ordered union : List Row) → IsOrdered staged ordered → IsUnion kept ordered union → IsUnion kept staged union
union_ordered kept staged ordered union o u = record {
  ascending = u.ascending;
  values = λ t. u.values t ∙ ap (later (latest kept t)) (o.values t);
  short = let a = u.short in let b = o.short in omega (arith, a, b);
}

-- ---- places in a list

-- from a point on that isn't before the time
pub from_time : (xs : List Row) (i : ℕ) (x : Row) (t : ℤ) → i < length xs → x ≡ get_or xs i x → t ≤ℤ x.0 → AreAscending xs → AllByRecursion (λ r. t ≤ℤ r.0) (drop i xs)
from_time [] i x t h e up a = absurd (omega arith)
from_time (y ∷ xs) zero x t h e up a = let low : t ≤ℤ y.0 = subst (λ (z : Row). t ≤ℤ z.0) e up in (low, all-weaker (λ r. y.0 <ℤ r.0) (λ r. t ≤ℤ r.0) (λ r far. omega (arith, ints)) xs a.0)
from_time (y ∷ xs) (suc i) x t h e up a = from_time xs i x t (omega arith) e up a.1

pub drop_drop : (xs : List Row) (i j k : ℕ) → k ≡ i + j → drop j (drop i xs) ≡ drop k xs
drop_drop xs i j k e = by xs i j ∙ ap (λ (n : ℕ). drop n xs) (sym e)
  where
    nothing : (n : ℕ) → drop {A = Row} n [] ≡ []
    nothing zero = refl
    nothing (suc n) = refl

    by : (ys : List Row) (m n : ℕ) → drop n (drop m ys) ≡ drop (m + n) ys
    by ys zero n = let e : n ≡ 0 + n = omega arith in ap (λ (k : ℕ). drop k ys) e
    by [] (suc m) n = nothing n ∙ sym (nothing (suc m + n))
    by (y ∷ ys) (suc m) n = let e : suc (m + n) ≡ suc m + n = omega arith in by ys m n ∙ ap (λ (k : ℕ). drop k (y ∷ ys)) e

pub later_next : (xs : List Row) (x : Row) (t : ℤ) → slice_get xs 0 ≡ Some x → int_eq x.0 t ≡ true → AreAscending xs → AllByRecursion (λ r. t <ℤ r.0) (drop 1 xs)
later_next [] x t at same a = tt
later_next (y ∷ xs) x t at same a =
    let own : y ≡ x = cc in
    let is : y.0 ≡ t = ap (λ (r : Row). r.0) own ∙ same_time x.0 t same in
    subst (λ (s : ℤ). AllByRecursion (λ r. s <ℤ r.0) xs) is a.0

pub later_first : (xs : List Row) (x : Row) (t : ℤ) → slice_get xs 0 ≡ Some x → int_eq x.0 t ≡ false → AreAscending xs → AllByRecursion (λ r. t ≤ℤ r.0) xs → AllByRecursion (λ r. t <ℤ r.0) xs
later_first [] x t at other a up = tt
later_first (y ∷ xs) x t at other a up =
    let own : y ≡ x = cc in
    let is : x.0 ≡ y.0 = ap (λ (r : Row). r.0) (sym own) in
    let low = up.0 in
    let far : t <ℤ y.0 = ⊎_elim (λ (e : y.0 ≡ t). absurd (false≢true (sym other ∙ time_same x.0 t (is ∙ e)))) (λ (h : t <ℤ y.0). h) (either y.0 low) in
    (far, all-weaker (λ r. y.0 <ℤ r.0) (λ r. t <ℤ r.0) (λ r h. omega (arith, ints)) xs a.0)
  where
    either : (s : ℤ) → t ≤ℤ s → (s ≡ t) ⊎ (t <ℤ s)
    either s h = grind (arith, ints)

pub drop_none : (xs : List Row) (i : ℕ) → length xs ≤ i → drop i xs ≡ []
drop_none [] zero h = refl
drop_none [] (suc i) h = refl
drop_none (x ∷ xs) zero h = absurd (omega arith)
drop_none (x ∷ xs) (suc i) h = drop_none xs i (omega arith)

pub ascending-drop : (n : ℕ) (xs : List Row) → AreAscending xs → AreAscending (drop n xs)
ascending-drop n xs a = ascending-back (take n xs) (drop n xs) (subst AreAscending (sym (take-append-drop n xs)) a)

-- the first of an ascending list is the least
pub first_least : (xs : List Row) (x : Row) → slice_get xs 0 ≡ Some x → AreAscending xs → AllByRecursion (λ r. x.0 ≤ℤ r.0) xs
first_least [] x at a = tt
first_least (y ∷ xs) x at a =
    let own : y ≡ x = cc in
    subst (λ (z : Row). AllByRecursion (λ r. z.0 ≤ℤ r.0) (y ∷ xs)) own (omega (arith, ints), all-weaker (λ r. y.0 <ℤ r.0) (λ r. y.0 ≤ℤ r.0) (λ r h. omega (arith, ints)) xs a.0)

pub no_first : (xs : List Row) → slice_get xs 0 ≡ None → xs ≡ []
no_first [] e = refl
no_first (x ∷ xs) e = absurd cc

-- a part of what is held, cut where the time begins and where it ends
pub puts_behind : (held : List Row) (from a k n : ℕ) (point : Row) (rest front behind old new : List Row) → rest ≡ drop from held → front ≡ take a rest → behind ≡ drop a rest → n ≡ (from + a) + k
    → AllByRecursion (λ r. r.0 <ℤ point.0) (take a rest) → AllByRecursion (λ r. r.0 ≡ point.0) (take k behind) → AllByRecursion (λ r. point.0 <ℤ r.0) (drop k behind) → new ≡ old ++ (front ++ point ∷ [])
    → PutsBehind (drop from held) point (drop n held) old new
puts_behind held from a k n point rest front behind old new at first second sum before equal later is =
    let left : drop k behind ≡ drop n held = ap (drop k) (second ∙ ap (drop a) at ∙ drop_drop held from a (from + a) refl) ∙ drop_drop held (from + a) k n sum in
    record {
      ahead = front;
      same = take k behind;
      seam = sym at ∙ sym (take-append-drop a rest) ∙ (λ i. (sym first) i ++ (sym second) i) ∙ ap (λ (l : List Row). front ++ l) (sym (take-append-drop k behind) ∙ ap (λ (l : List Row). take k behind ++ l) left);
      before = subst (AllByRecursion (λ r. r.0 <ℤ point.0)) (sym first) before;
      equal = equal;
      later = subst (AllByRecursion (λ r. point.0 <ℤ r.0)) left later;
      appends = is;
    }

pub ordered_firsts : (points old sorted new : List Row) → old ≡ [] → AppendsFirsts old sorted new → ((t : ℤ) → first_at sorted t ≡ latest points t) → length sorted ≡ length points → IsOrdered points new
ordered_firsts points old sorted new none appends firsts long =
    let is : new ≡ appends.added = appends.appends ∙ ap (λ (l : List Row). l ++ appends.added) none in
    record {
      ascending = subst AreAscending (sym is) appends.ascending;
      values = λ t. ap (λ (l : List Row). latest l t) is ∙ appends.firsts t ∙ firsts t;
      short = let a = ap length is in let b = appends.short in omega (arith, a, b, long);
    }
