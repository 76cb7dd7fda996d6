-- The value at a time: of lists one behind the other, turned round, sorted, and without later points at one time.
use Rattle.std.proofs.Common.{◌≡◌, ◌≢◌, ℕ, zero, suc, ◌+◌, ◌<◌, ◌≤◌, ℤ, pos, ◌≤ℤ◌, ◌<ℤ◌, Bool, true, false, cond, not, ◌&&◌, List, [], ◌∷◌, ◌++◌, length, get_or, filter, reverse, Option, Some, None, is_some, append_assoc, length-append, refl, sym, ap, ◌∙◌, subst, ⊎_elim, arith, if◌then◌else◌}
use Rattle.std.specs.List.{AllByRecursion}
use Rattle.std.specs.List.Sorted.{IsSortedByKey, IsStableByKey, ties}
use Rattle.std.specs.Ordering.{int_cmp, int_eq, is_lt, is_eq}
use Rattle.std.specs.declared.cmp.Ordering.TheVariants.{Less, Equal, Greater}
use Rattle.std.specs.Int.Signed.{lt_z}
use Rattle.std.proofs.lemmas.Int.{ints}
use Rattle.std.proofs.lemmas.Bool.{cases_Bool, false≢true}
use Rattle.std.proofs.lemmas.Bool.Decides.{Decides-int_eq}
use Rattle.std.proofs.lemmas.List.{reverse-append}
use Rattle.tombstones.proofs.RangeLemmas.{all-append, all-front, all-back, all-weaker}
use Rattle.tsdb_types.specs.declared.value.Value.{Value}
use Rattle.tsdb_types.specs.declared.value.Value.TheVariants.{Int}
use Rattle.point_model.specs.Rows.{Row}
use Rattle.point_cache.specs.Cached.{AreAscending, later, latest}
use Rattle.point_cache.specs.Sorted.{first_at, is_later, AreRising}
use Rattle.point_cache.proofs.OrderLemmas.{ascending-push}

-- the value of a point, where it has the time
abbrev pub value_of : Row → ℤ → Option Value
value_of row time = if int_eq time row.0 then Some row.1 else None

pub later-none : (v : Option Value) → later None v ≡ v
later-none None = refl
later-none (Some v) = refl

later-assoc : (a b c : Option Value) → later a (later b c) ≡ later (later a b) c
later-assoc a b None = refl
later-assoc a b (Some c) = refl

-- ---- equal times

pub same_time : (s t : ℤ) → int_eq s t ≡ true → s ≡ t
same_time s t e = (Decides-int_eq s t).0 e

pub time_same : (s t : ℤ) → s ≡ t → int_eq s t ≡ true
time_same s t e = (Decides-int_eq s t).1 e

value_of-other : (row : Row) (time : ℤ) → int_eq time row.0 ≡ false → value_of row time ≡ None
value_of-other row time e = ap (λ (b : Bool). if b then Some row.1 else None) e

value_of-own : (row : Row) (time : ℤ) → int_eq time row.0 ≡ true → value_of row time ≡ Some row.1
value_of-own row time e = ap (λ (b : Bool). if b then Some row.1 else None) e

-- ---- lists one behind the other

pub latest-append : (xs ys : List Row) (t : ℤ) → latest (xs ++ ys) t ≡ later (latest xs t) (latest ys t)
latest-append [] ys t = sym (later-none (latest ys t))
latest-append (x ∷ xs) ys t = ap (λ (v : Option Value). later (value_of x t) v) (latest-append xs ys t) ∙ later-assoc (value_of x t) (latest xs t) (latest ys t)

pub latest-push : (xs : List Row) (x : Row) (t : ℤ) → latest (xs ++ x ∷ []) t ≡ later (latest xs t) (value_of x t)
latest-push xs x t = latest-append xs (x ∷ []) t

first_step : (b : Bool) (v : Value) (xs ys : Option Value) → (if b then Some v else later ys xs) ≡ later ys (if b then Some v else xs)
first_step true v xs ys = refl
first_step false v xs ys = refl

pub first_at-append : (xs ys : List Row) (t : ℤ) → first_at (xs ++ ys) t ≡ later (first_at ys t) (first_at xs t)
first_at-append [] ys t = refl
first_at-append (x ∷ xs) ys t = ap (λ (v : Option Value). if int_eq t x.0 then Some x.1 else v) (first_at-append xs ys t) ∙ first_step (int_eq t x.0) x.1 (first_at xs t) (first_at ys t)

-- turned round, the last is the first
pub first_at-reverse : (xs : List Row) (t : ℤ) → first_at (reverse xs) t ≡ latest xs t
first_at-reverse [] t = refl
first_at-reverse (x ∷ xs) t =
    ap (λ (l : List Row). first_at l t) (reverse-append (x ∷ []) xs) ∙ first_at-append (reverse xs) (x ∷ []) t ∙ ap (later (value_of x t)) (first_at-reverse xs t)

-- ---- sorted lists

tie : (a b : Bool) → (not (is_lt (cond a Less (cond b Greater Equal))) && not (is_lt (cond b Less (cond a Greater Equal)))) ≡ is_eq (cond a Less (cond b Greater Equal))
tie true true = refl
tie true false = refl
tie false true = refl
tie false false = refl

less : (a b : Bool) → is_lt (cond a Less (cond b Greater Equal)) ≡ a
less true b = refl
less false true = refl
less false false = refl

ties-time : (x y : Row) → ties (λ (a b : Row). is_lt (int_cmp a.0 b.0)) x y ≡ int_eq x.0 y.0
ties-time x y = tie (lt_z x.0 y.0) (lt_z y.0 x.0)

first_at-step : (t : ℤ) (x : Row) (p : Row → Bool) (xs : List Row) (b : Bool) → int_eq t x.0 ≡ b → p x ≡ int_eq t x.0 → first_at (filter p xs) t ≡ first_at xs t → first_at (filter p (x ∷ xs)) t ≡ first_at (x ∷ xs) t
first_at-step t x p xs true e same rest =
    ap (λ (c : Bool). first_at (cond c (x ∷ filter p xs) (filter p xs)) t) (same ∙ e) ∙ ap (λ (c : Bool). if c then Some x.1 else first_at (filter p xs) t) e ∙ sym (ap (λ (c : Bool). if c then Some x.1 else first_at xs t) e)
first_at-step t x p xs false e same rest =
    ap (λ (c : Bool). first_at (cond c (x ∷ filter p xs) (filter p xs)) t) (same ∙ e) ∙ rest ∙ sym (ap (λ (c : Bool). if c then Some x.1 else first_at xs t) e)

first_at-ties : (t : ℤ) (v : Value) (xs : List Row) → first_at (filter (ties (λ (a b : Row). is_lt (int_cmp a.0 b.0)) (t, v)) xs) t ≡ first_at xs t
first_at-ties t v [] = refl
first_at-ties t v (x ∷ xs) = first_at-step t x (ties (λ (a b : Row). is_lt (int_cmp a.0 b.0)) (t, v)) xs (int_eq t x.0) refl (ties-time (t, v) x) (first_at-ties t v xs)

-- a stable sort keeps the first at each time
pub first_at-sorted : (xs ys : List Row) → IsStableByKey (λ (r : Row). r.0) int_cmp xs ys → (t : ℤ) → first_at ys t ≡ first_at xs t
first_at-sorted xs ys stable t =
    let v = Int (pos 0) in
    sym (first_at-ties t v ys) ∙ ap (λ (l : List Row). first_at l t) (stable (t, v)) ∙ first_at-ties t v xs

rising : (xs : List Row) → ((k : ℕ) (d : Row) → suc k < length xs → lt_z (get_or xs (suc k) d).0 (get_or xs k d).0 ≡ false) → AreRising xs
rising [] h = tt
rising (x ∷ []) h = (tt, tt)
rising (x ∷ y ∷ xs) h =
    let rest = rising (y ∷ xs) (λ k d b. h (suc k) d (omega arith)) in
    let first : lt_z y.0 x.0 ≡ false = h zero x (omega arith) in
    let low : x.0 ≤ℤ y.0 = grind (arith, ints) in
    ((low, all-weaker (λ r. y.0 ≤ℤ r.0) (λ r. x.0 ≤ℤ r.0) (λ r up. omega (arith, ints)) xs rest.0), rest)

pub rising-sorted : (xs : List Row) → IsSortedByKey (λ (r : Row). r.0) int_cmp xs → AreRising xs
rising-sorted xs h = rising xs (λ k d b.
    let e : k + 1 ≡ suc k = omega arith in
    let at = h k d (omega arith) (omega arith) in
    sym (less (lt_z (get_or xs (suc k) d).0 (get_or xs k d).0) (lt_z (get_or xs k d).0 (get_or xs (suc k) d).0))
    ∙ subst (λ (n : ℕ). is_lt (int_cmp (get_or xs n d).0 (get_or xs k d).0) ≡ false) e at)

-- ---- the first at each time alone

none_at : (t : ℤ) (xs : List Row) → AllByRecursion (λ r. r.0 <ℤ t) xs → latest xs t ≡ None
none_at t [] a = refl
none_at t (x ∷ xs) a =
    let low = a.0 in
    let other : int_eq t x.0 ≡ false = ⊎_elim (λ (e : int_eq t x.0 ≡ true). let same = same_time t x.0 e in absurd (omega (arith, ints))) (λ (e : int_eq t x.0 ≡ false). e) (cases_Bool (int_eq t x.0)) in
    ap (λ (v : Option Value). later v (latest xs t)) (value_of-other x t other) ∙ ap (later None) (none_at t xs a.1)

some_later : (a b : Option Value) → is_some a ≡ true → is_some (later a b) ≡ true
some_later a None s = s
some_later a (Some b) s = refl

later-some : (a b : Option Value) → is_some b ≡ true → later a b ≡ b
later-some a None s = absurd (false≢true s)
later-some a (Some b) s = refl

-- what is known behind some points of a sorted list: none that was added is behind the last time, none that comes before it
abbrev pub Tail : Option ℤ → List Row → List Row → List Row → Type 0
Tail None seen rest added = (seen ≡ []) × (added ≡ [])
Tail (Some last) seen rest added = AllByRecursion (λ r. r.0 ≤ℤ last) added × AllByRecursion (λ r. last ≤ℤ r.0) rest × (is_some (first_at seen last) ≡ true)

-- the points that were added, with one more where it is later
abbrev pub added_with : Bool → List Row → Row → List Row
added_with b added x = if b then added ++ x ∷ [] else added

pub record Firsts (last : Option ℤ) (seen rest added : List Row) : Type 0 where
  pub short : length added ≤ length seen
  pub ascending : AreAscending added
  pub firsts : (t : ℤ) → latest added t ≡ first_at seen t
  pub bound : (t : ℤ) → AllByRecursion (λ r. t ≤ℤ r.0) seen → AllByRecursion (λ r. t ≤ℤ r.0) added
  pub tail : Tail last seen rest added

seen_own : (seen : List Row) (x : Row) → is_some (first_at (seen ++ x ∷ []) x.0) ≡ true
seen_own seen x =
    ap is_some (first_at-append seen (x ∷ []) x.0)
    ∙ some_later (value_of x x.0) (first_at seen x.0) (ap is_some (value_of-own x x.0 (time_same x.0 x.0 refl)))

pushed_at : (seen added : List Row) (x : Row) → AllByRecursion (λ r. r.0 <ℤ x.0) added → ((t : ℤ) → latest added t ≡ first_at seen t) → (t : ℤ) (b : Bool) → int_eq t x.0 ≡ b → latest (added ++ x ∷ []) t ≡ first_at (seen ++ x ∷ []) t
pushed_at seen added x low firsts t true e =
    let none : latest added t ≡ None = none_at t added (subst (λ (s : ℤ). AllByRecursion (λ r. r.0 <ℤ s) added) (sym (same_time t x.0 e)) low) in
    latest-push added x t ∙ ap (λ (v : Option Value). later v (value_of x t)) none ∙ later-none (value_of x t)
    ∙ ap (later (value_of x t)) (sym none ∙ firsts t) ∙ sym (first_at-append seen (x ∷ []) t)
pushed_at seen added x low firsts t false e =
    let none = value_of-other x t e in
    latest-push added x t ∙ ap (later (latest added t)) none ∙ firsts t ∙ sym (later-none (first_at seen t))
    ∙ ap (λ (v : Option Value). later v (first_at seen t)) (sym none) ∙ sym (first_at-append seen (x ∷ []) t)

one_more : (xs ys : List Row) (x : Row) → length xs ≤ length ys → length (xs ++ x ∷ []) ≤ length (ys ++ x ∷ [])
one_more xs ys x h =
    let some = length-append xs (x ∷ []) in
    let others = length-append ys (x ∷ []) in
    omega arith

push_one : (last : Option ℤ) (seen rest added : List Row) (x : Row) → AllByRecursion (λ r. r.0 <ℤ x.0) added → AllByRecursion (λ r. x.0 ≤ℤ r.0) rest → Firsts last seen (x ∷ rest) added → Firsts (Some x.0) (seen ++ x ∷ []) rest (added ++ x ∷ [])
push_one last seen rest added x low high f = record {
  short = one_more added seen x f.short;
  ascending = ascending-push added x f.ascending low;
  firsts = λ t. pushed_at seen added x low f.firsts t (int_eq t x.0) refl;
  bound = λ t all. all-append (λ r. t ≤ℤ r.0) added (x ∷ []) (f.bound t (all-front (λ r. t ≤ℤ r.0) seen (x ∷ []) all)) (all-back (λ r. t ≤ℤ r.0) seen (x ∷ []) all);
  tail = (all-append (λ r. r.0 ≤ℤ x.0) added (x ∷ []) (all-weaker (λ r. r.0 <ℤ x.0) (λ r. r.0 ≤ℤ x.0) (λ r h. omega (arith, ints)) added low) (omega (arith, ints), tt), high, seen_own seen x);
}

skipped_at : (seen added : List Row) (x : Row) → is_some (first_at seen x.0) ≡ true → ((t : ℤ) → latest added t ≡ first_at seen t) → (t : ℤ) (b : Bool) → int_eq t x.0 ≡ b → latest added t ≡ first_at (seen ++ x ∷ []) t
skipped_at seen added x some firsts t true e =
    firsts t ∙ sym (later-some (value_of x t) (first_at seen t) (subst (λ (s : ℤ). is_some (first_at seen s) ≡ true) (sym (same_time t x.0 e)) some)) ∙ sym (first_at-append seen (x ∷ []) t)
skipped_at seen added x some firsts t false e =
    firsts t ∙ sym (later-none (first_at seen t)) ∙ ap (λ (v : Option Value). later v (first_at seen t)) (sym (value_of-other x t e)) ∙ sym (first_at-append seen (x ∷ []) t)

pub firsts_more : (last : Option ℤ) (seen rest added : List Row) (x : Row) (b : Bool) → is_later last x.0 ≡ b → AllByRecursion (λ r. x.0 ≤ℤ r.0) rest → Firsts last seen (x ∷ rest) added → Firsts (Some x.0) (seen ++ x ∷ []) rest (added_with b added x)
firsts_more None seen rest added x true e high f = push_one None seen rest added x (subst (λ (l : List Row). AllByRecursion (λ r. r.0 <ℤ x.0) l) (sym f.tail.1) tt) high f
firsts_more None seen rest added x false e high f = absurd (false≢true (sym e))
firsts_more (Some last) seen rest added x true e high f = push_one (Some last) seen rest added x (all-weaker (λ r. r.0 ≤ℤ last) (λ r. r.0 <ℤ x.0) (λ r h. grind (arith, ints)) added f.tail.0) high f
firsts_more (Some last) seen rest added x false e high f =
    let up = f.tail.1.0 in
    let same : last ≡ x.0 = grind (arith, ints) in
    record {
      short = let more = length-append seen (x ∷ []) in let less = f.short in omega arith;
      ascending = f.ascending;
      firsts = λ t. skipped_at seen added x (subst (λ (s : ℤ). is_some (first_at seen s) ≡ true) same f.tail.2) f.firsts t (int_eq t x.0) refl;
      bound = λ t all. f.bound t (all-front (λ r. t ≤ℤ r.0) seen (x ∷ []) all);
      tail = (subst (λ (s : ℤ). AllByRecursion (λ r. r.0 ≤ℤ s) added) same f.tail.0, high, seen_own seen x);
    }

-- behind what stood there before
pub appended : (b : Bool) (first added old : List Row) (x : Row) → old ≡ first ++ added → (if b then old ++ x ∷ [] else old) ≡ first ++ added_with b added x
appended true first added old x e = ap (λ (l : List Row). l ++ x ∷ []) e ∙ append_assoc first added (x ∷ [])
appended false first added old x e = e

pub none_yet : (sorted : List Row) → Firsts None [] sorted []
none_yet sorted = record { short = omega arith; ascending = tt; firsts = λ t. refl; bound = λ t a. tt; tail = (refl, refl) }

some_first : (v : Value) (w : Option Value) → is_some (later (Some v) w) ≡ true
some_first v None = refl
some_first v (Some w) = refl

-- a list with the values of one that has a point has a point
pub some_stays : (old new : List Row) → ((t : ℤ) → latest new t ≡ latest old t) → old ≢ [] → new ≢ []
some_stays [] new same some = λ e. some refl
some_stays (x ∷ xs) new same some = λ e.
    let none : is_some (latest new x.0) ≡ false = ap (λ (l : List Row). is_some (latest l x.0)) e in
    let there : is_some (latest (x ∷ xs) x.0) ≡ true = ap (λ (v : Option Value). is_some (later v (latest xs x.0))) (value_of-own x x.0 (time_same x.0 x.0 refl)) ∙ some_first x.1 (latest xs x.0) in
    false≢true (sym none ∙ ap is_some (same x.0) ∙ there)

-- one point more
pub latest_more : (xs : List Row) (x : Row) (t : ℤ) → latest (xs ++ x ∷ []) t ≡ (if int_eq t x.0 then Some x.1 else latest xs t)
latest_more xs x t = latest-push xs x t ∙ by (int_eq t x.0)
  where
    by : (b : Bool) → later (latest xs t) (if b then Some x.1 else None) ≡ (if b then Some x.1 else latest xs t)
    by true = refl
    by false = refl
