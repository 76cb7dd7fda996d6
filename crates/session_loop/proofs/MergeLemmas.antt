-- The rows of the keys of a field, in order, are the field's rows.
use Rattle.std.proofs.Common.{rules, ◌≡◌, ℕ, ℤ, ◌+◌, ◌<◌, zero, suc, Bool, true, false, ◌&&◌, T, pos, negsuc, List, [], ◌∷◌, ◌++◌, map, Some, IsSome, refl, sym, ap, subst, ◌∙◌, arith, inl, inr, ◌⊎◌, Ordering, Less, Equal, Greater, All, Contains, slice_index_or, int_le, nat_eq, if◌then◌else◌}
use Rattle.std.specs.Ordering.{nat_cmp, int_cmp, ordering_then, ordering_reverse, eq_by_cmp, is_lt, is_eq}
use Rattle.std.specs.Cmp.{IsTotalOrder, then_total, on_total, int_cmp_total, eq_by_cmp_equiv, nat_cmp_is}
use Rattle.std.specs.Cmp.Lexicographic.{pointwise, slice_cmp, nat_list_cmp_total, same_text}
use Rattle.std.specs.List.{AllByRecursion, IsDistinct}
use Rattle.std.specs.List.Sorted.{IsStrictlySortedBy, IsPermutation}
use Rattle.std.specs.Map.{keys_of}
use Rattle.std.specs.BTreeMap.{is_at}
use Rattle.std.proofs.lemmas.Cmp.{nat_cmp_total, tied_itself, nat_list_eq_equiv}
use Rattle.std.proofs.lemmas.Map.Keys.{sorted_head, sorted_tail, IsDistinct-from_sorted, IsDistinct-IsPermutation, apart_from_distinct, sorted_from_all_adjacent}
use Rattle.std.proofs.lemmas.List.Sorted.{IsPermutation-refl, IsPermutation-sym, IsPermutation-trans, IsPermutation-cons, IsPermutation-middle, IsPermutation-append_right, Contains-permutation}
use Rattle.std.proofs.lemmas.Bool.{false≢true}
use Rattle.std.proofs.lemmas.List.Elements.{recursion_from_All}
use Rattle.tsdb_types.specs.Series.{is_series_of}
use Rattle.tsdb_types.specs.declared.point.Cell.{Cell}
use Rattle.tsdb_types.specs.declared.value.Value.{Value}
use Rattle.point_model.specs.Points.{Points, cell_cmp, value_at}
use Rattle.point_model.specs.Rows.{Row, is_of, rows_of}
use Rattle.tsdb_types.specs.Moments.{IsMoment}
use Rattle.point_model.specs.declared.need.Need.{Need}
use Rattle.point_model.specs.Conditions.{Condition, True, meets}
use Rattle.point_model.specs.Cursors.{Key, key_cmp, in_order, rows_between, rows_needed, Shown, Gives}
use Rattle.session_loop.specs.declared.select.Found.{Found}
use Rattle.session_loop.specs.Merged.{at_place, rows_at, rows_from, found_cmp, row_found, AreInOrder, AsksAll}

-- Lists that are strictly sorted and have the same members are one.

-- it is one of these
abbrev pub Among : {X : Type 0} → List X → X → Type 0
Among [] x = ⊥
Among (y ∷ ys) x = (y ≡ x) ⊎ Among ys x

pub among_from : {X : Type 0} (xs : List X) (x : X) → Contains xs x → Among xs x
among_from [] x c = absurd (let low = c.1 in omega arith)
among_from (y ∷ ys) x (zero, low, is) = inl is
among_from (y ∷ ys) x (suc k, low, is) = inr (among_from ys x (k, omega (arith, low), is))

pub contains_from : {X : Type 0} (xs : List X) (x : X) → Among xs x → Contains xs x
contains_from [] x m = absurd m
contains_from (y ∷ ys) x (inl is) = (zero, omega arith, is)
contains_from (y ∷ ys) x (inr m) =
    let rest = contains_from ys x m in
    (suc rest.0, (let low = rest.1 in omega arith), rest.2)

pub all_among : {X : Type 0} (P : X → Type 0) (xs : List X) (x : X) → AllByRecursion P xs → Among xs x → P x
all_among P [] x h m = absurd m
all_among P (y ∷ ys) x h (inl is) = subst P is h.0
all_among P (y ∷ ys) x h (inr m) = all_among P ys x h.1 m

module _ {X : Type 0} (R : X → X → Ordering) (o : IsTotalOrder R) where
  irreflexive : (x : X) → R x x ≡ Less → ⊥
  irreflexive x less = let tied = tied_itself o x in cc (less, tied)

  both_less : (x y : X) → R x y ≡ Less → R y x ≡ Less → ⊥
  both_less x y first second = irreflexive x (o.trans x y x first second)

  heads_one : (x y : X) (xs ys : List X) → AllByRecursion (λ z. R x z ≡ Less) xs → AllByRecursion (λ z. R y z ≡ Less) ys
      → Among (x ∷ xs) y → Among (y ∷ ys) x → x ≡ y
  heads_one x y xs ys first second (inl is) other = is
  heads_one x y xs ys first second (inr m) (inl is) = sym is
  heads_one x y xs ys first second (inr m) (inr n) = absurd (both_less x y (all_among (λ z. R x z ≡ Less) xs y first m) (all_among (λ z. R y z ≡ Less) ys x second n))

  tail_among : (x y z : X) (ys : List X) → x ≡ y → R x z ≡ Less → Among (y ∷ ys) z → Among ys z
  tail_among x y z ys same less (inl is) = absurd (irreflexive x (subst (λ (w : X). R x w ≡ Less) (sym (same ∙ is)) less))
  tail_among x y z ys same less (inr m) = m

  pub sorted_one : (xs ys : List X) → IsStrictlySortedBy R xs → IsStrictlySortedBy R ys
      → ((x : X) → Among xs x → Among ys x) → ((x : X) → Among ys x → Among xs x) → xs ≡ ys
  sorted_one [] [] first second there back = refl
  sorted_one [] (y ∷ ys) first second there back = absurd (back y (inl refl))
  sorted_one (x ∷ xs) [] first second there back = absurd (there x (inl refl))
  sorted_one (x ∷ xs) (y ∷ ys) first second there back =
      let head = heads_one x y xs ys (sorted_head R x xs first) (sorted_head R y ys second) (back y (inl refl)) (there x (inl refl)) in
      let tail = sorted_one xs ys (sorted_tail R x xs first) (sorted_tail R y ys second)
      (λ z m. tail_among x y z ys head (all_among (λ w. R x w ≡ Less) xs z (sorted_head R x xs first) m) (there z (inr m)))
      (λ z m. tail_among y x z xs (sym head) (all_among (λ w. R y w ≡ Less) ys z (sorted_head R y ys second) m) (back z (inr m))) in
      cc (head, tail)

-- A list in order whose keys differ is strictly sorted.

found_total : IsTotalOrder found_cmp
found_total = then_total (on_total (λ (f : Found). f.time) int_cmp_total) (on_total (λ (f : Found). f.key) nat_cmp_total)

less_of : (o : Ordering) → is_eq o ≡ false → is_lt (ordering_reverse o) ≡ false → o ≡ Less
less_of Less other below = refl
less_of Equal other below = cc other
less_of Greater other below = cc below

strictly_from : (rows : List Found) → AreInOrder rows → IsDistinct (eq_by_cmp found_cmp) rows → IsStrictlySortedBy found_cmp rows
unfolding IsStrictlySortedBy
strictly_from [] sorted distinct = tt
strictly_from (x ∷ rows) sorted distinct = sorted_from_all_adjacent found_total (x ∷ rows) x
    (λ k low. less_of (found_cmp (slice_index_or (x ∷ rows) k x) (slice_index_or (x ∷ rows) (k + 1) x))
    (apart_from_distinct (eq_by_cmp found_cmp) (x ∷ rows) k (k + 1) x distinct (omega arith) low)
    (ap is_lt (sym (found_total.antisymm (slice_index_or (x ∷ rows) (k + 1) x) (slice_index_or (x ∷ rows) k x))) ∙ sorted k x (omega arith) low))

-- what is in order, and has what a strictly sorted list has, is that list
pub order_one : (sorted rows : List Found) → AreInOrder sorted → IsPermutation rows sorted → IsStrictlySortedBy found_cmp rows → sorted ≡ rows
order_one sorted rows order same strict =
    let apart = IsDistinct-IsPermutation (eq_by_cmp found_cmp) (let laws = eq_by_cmp_equiv found_total in laws.symm) rows sorted same (IsDistinct-from_sorted found_cmp rows strict) in
    sorted_one found_cmp found_total sorted rows (strictly_from sorted order apart) strict
    (λ x m. among_from rows x (Contains-permutation sorted rows x (IsPermutation-sym rows sorted same) (contains_from sorted x m)))
    (λ x m. among_from sorted x (Contains-permutation rows sorted x same (contains_from rows x m)))

-- Keys and the places of keys.

and_first : (a b : Bool) → (a && b) ≡ true → a ≡ true
and_first true b h = refl
and_first false b h = h

and_second : (a b : Bool) → (a && b) ≡ true → b ≡ true
and_second true b h = h
and_second false b h = cc h

and_both : (a b : Bool) → a ≡ true → b ≡ true → (a && b) ≡ true
and_both a b first second = ap (λ (t : Bool). t && b) first ∙ second

abbrev pub key_of : Cell → Key
key_of cell = (cell.series, cell.field)

abbrev same_key : Key → Key → Bool
same_key a b = pointwise nat_eq a.0 b.0 && pointwise nat_eq a.1 b.1

key_one : (a b : Key) → same_key a b ≡ true → a ≡ b
key_one a b same =
    let first = same_text a.0 b.0 (sym (and_first (pointwise nat_eq a.0 b.0) (pointwise nat_eq a.1 b.1) same)) in
    let second = same_text a.1 b.1 (sym (and_second (pointwise nat_eq a.0 b.0) (pointwise nat_eq a.1 b.1) same)) in
    let with_series : List ℕ → Key = λ x. (x, a.1) in
    let with_field : List ℕ → Key = λ x. (b.0, x) in
    ap with_series first ∙ ap with_field second

key_total : IsTotalOrder key_cmp
key_total = then_total (on_total (λ (k : Key). k.0) nat_list_cmp_total) (on_total (λ (k : Key). k.1) nat_list_cmp_total)

-- a key behind a strictly sorted one is another
apart_key : (a k b : Key) → a ≡ k → key_cmp k b ≡ Less → same_key a b ≡ false
apart_key a k b is less = by (same_key a b) refl
  where
    by : (t : Bool) → same_key a b ≡ t → t ≡ false
    by true e = absurd (irreflexive key_cmp key_total k (subst (λ (x : Key). key_cmp k x ≡ Less) (sym (key_one a b e) ∙ is) less))
    by false e = refl

apart_keys : (a k : Key) (ks : List Key) → a ≡ k → AllByRecursion (λ y. key_cmp k y ≡ Less) ks → AllByRecursion (λ y. same_key a y ≡ false) ks
apart_keys a k [] is h = tt
apart_keys a k (b ∷ ks) is h = (apart_key a k b is h.0, apart_keys a k ks is h.1)

-- the place of a key
abbrev place_if : Bool → ℕ → ℕ
place_if here rest = if here then 0 else suc rest

place_of : List Key → Key → ℕ
place_of [] a = 0
place_of (k ∷ ks) a = place_if (same_key a k) (place_of ks a)

same_itself : (a : Key) → same_key a a ≡ true
same_itself a = and_both (pointwise nat_eq a.0 a.0) (pointwise nat_eq a.1 a.1) (nat_list_eq_equiv.refl a.0) (nat_list_eq_equiv.refl a.1)

among_rest : (a k : Key) (ks : List Key) → same_key a k ≡ false → Among (k ∷ ks) a → Among ks a
among_rest a k ks other (inl is) = absurd (false≢true (sym other ∙ subst (λ (x : Key). same_key a x ≡ true) (sym is) (same_itself a)))
among_rest a k ks other (inr m) = m

-- keys that ascend have places that do
places_less : (ks : List Key) (a b : Key) → IsStrictlySortedBy key_cmp ks → Among ks a → Among ks b → key_cmp a b ≡ Less → place_of ks a < place_of ks b
unfolding place_of
places_less [] a b sorted first second less = absurd first
places_less (k ∷ ks) a b sorted first second less =
    by (same_key a k) (same_key b k) refl refl (λ m n. places_less ks a b (sorted_tail key_cmp k ks sorted) m n less)
  where
    behind : (x : Key) → Among ks x → key_cmp k x ≡ Less
    behind x m = all_among (λ y. key_cmp k y ≡ Less) ks x (sorted_head key_cmp k ks sorted) m

    by : (s t : Bool) → same_key a k ≡ s → same_key b k ≡ t → (Among ks a → Among ks b → place_of ks a < place_of ks b)
        → place_if s (place_of ks a) < place_if t (place_of ks b)
    by true true e f next = absurd (irreflexive key_cmp key_total a (subst (λ (x : Key). key_cmp a x ≡ Less) (key_one b k f ∙ sym (key_one a k e)) less))
    by true false e f next = omega arith
    by false true e f next =
        absurd (both_less key_cmp key_total a k (subst (λ (x : Key). key_cmp a x ≡ Less) (key_one b k f) less) (behind a (among_rest a k ks e first)))
    by false false e f next =
        let rest = next (among_rest a k ks e first) (among_rest b k ks f second) in omega (arith, rest)

-- The rows of all keys, in whatever order, are those of the field.

module _ (measurement field : List ℕ) (from to : ℤ) where
  -- the rows of the keys among these points
  abbrev pub taken : ℕ → List Key → Points → List Found
  taken place keys points = rows_from field place keys (map (rows_between from to points) keys)

  abbrev pub is_inside : Cell → Bool
  is_inside cell = int_le from cell.time && int_le cell.time to

  abbrev row_of : Cell × Value → Row
  row_of point = (point.0.time, point.1)

  other_rows : (k : Key) (point : Cell × Value) (points : Points) → same_key (key_of point.0) k ≡ false → rows_between from to (point ∷ points) k ≡ rows_between from to points k
  other_rows k point points other =
      ap (λ (t : Bool). if t && is_inside point.0 then row_of point ∷ rows_between from to points k else rows_between from to points k) other

  more_rows : (k : Key) (point : Cell × Value) (points : Points) → same_key (key_of point.0) k ≡ true → is_inside point.0 ≡ true
      → rows_between from to (point ∷ points) k ≡ row_of point ∷ rows_between from to points k
  more_rows k point points same inside =
      ap (λ (t : Bool). if t then row_of point ∷ rows_between from to points k else rows_between from to points k)
      (and_both (same_key (key_of point.0) k) (is_inside point.0) same inside)

  -- a point of none of the keys
  other_keys : (place : ℕ) (keys : List Key) (point : Cell × Value) (points : Points) → AllByRecursion (λ k. same_key (key_of point.0) k ≡ false) keys
      → taken place keys (point ∷ points) ≡ taken place keys points
  other_keys place [] point points h = refl
  other_keys place (k ∷ ks) point points h =
      ap (λ (rows : List Row). rows_at field place k rows ++ taken (place + 1) ks (point ∷ points)) (other_rows k point points h.0)
      ∙ ap (λ (l : List Found). rows_at field place k (rows_between from to points k) ++ l) (other_keys (place + 1) ks point points h.1)

  field_rows : (k : Key) (place : ℕ) (rows : List Row) → pointwise nat_eq k.1 field ≡ true → rows_at field place k rows ≡ map (at_place place) rows
  field_rows k place rows is = ap (λ (t : Bool). if t then map (at_place place) rows else []) is

  abbrev found_of : ℕ → Cell × Value → Found
  found_of place point = at_place place (row_of point)

  -- a point of one of the keys is one row more, among those of its key
  one_more : (place : ℕ) (keys : List Key) (point : Cell × Value) (points : Points) → IsStrictlySortedBy key_cmp keys → Among keys (key_of point.0)
      → pointwise nat_eq point.0.field field ≡ true → is_inside point.0 ≡ true
      → IsPermutation (found_of (place + place_of keys (key_of point.0)) point ∷ taken place keys points) (taken place keys (point ∷ points))
  unfolding place_of
  one_more place [] point points sorted m of_field inside = absurd m
  one_more place (k ∷ ks) point points sorted m of_field inside =
      by (same_key (key_of point.0) k) refl (λ n. one_more (place + 1) ks point points (sorted_tail key_cmp k ks sorted) n of_field inside)
    where
      by : (t : Bool) → same_key (key_of point.0) k ≡ t
          → (Among ks (key_of point.0) → IsPermutation (found_of ((place + 1) + place_of ks (key_of point.0)) point ∷ taken (place + 1) ks points) (taken (place + 1) ks (point ∷ points)))
          → IsPermutation (found_of (place + place_if t (place_of ks (key_of point.0))) point ∷ taken place (k ∷ ks) points) (taken place (k ∷ ks) (point ∷ points))
      by true e next =
          let is = key_one (key_of point.0) k e in
          let named : pointwise nat_eq k.1 field ≡ true = subst (λ (x : Key). pointwise nat_eq x.1 field ≡ true) is of_field in
          let here : taken place (k ∷ ks) (point ∷ points) ≡ found_of (place + 0) point ∷ taken place (k ∷ ks) points =
          ap (λ (l : List Row). rows_at field place k l ++ taken (place + 1) ks (point ∷ points)) (more_rows k point points e inside)
          ∙ ap (λ (l : List Found). rows_at field place k (row_of point ∷ rows_between from to points k) ++ l)
          (other_keys (place + 1) ks point points (apart_keys (key_of point.0) k ks is (sorted_head key_cmp k ks sorted)))
          ∙ ap (λ (l : List Found). l ++ taken (place + 1) ks points) (field_rows k place (row_of point ∷ rows_between from to points k) named
          ∙ ap (λ (l : List Found). found_of place point ∷ l) (sym (field_rows k place (rows_between from to points k) named)))
          ∙ ap (λ (n : ℕ). found_of n point ∷ taken place (k ∷ ks) points) (omega arith) in
          subst (λ (l : List Found). IsPermutation (found_of (place + 0) point ∷ taken place (k ∷ ks) points) l) (sym here)
          (IsPermutation-refl (found_of (place + 0) point ∷ taken place (k ∷ ks) points))
      by false e next =
          let x = found_of (place + suc (place_of ks (key_of point.0))) point in
          let rows = rows_at field place k (rows_between from to points k) in
          let rest : IsPermutation (x ∷ taken (place + 1) ks points) (taken (place + 1) ks (point ∷ points)) =
          subst (λ (n : ℕ). IsPermutation (found_of n point ∷ taken (place + 1) ks points) (taken (place + 1) ks (point ∷ points))) (omega arith)
          (next (among_rest (key_of point.0) k ks e m)) in
          subst (λ (l : List Row). IsPermutation (x ∷ (rows ++ taken (place + 1) ks points)) (rows_at field place k l ++ taken (place + 1) ks (point ∷ points)))
          (sym (other_rows k point points e))
          (IsPermutation-trans (x ∷ (rows ++ taken (place + 1) ks points)) (rows ++ x ∷ taken (place + 1) ks points) (rows ++ taken (place + 1) ks (point ∷ points))
          (IsPermutation-sym (rows ++ x ∷ taken (place + 1) ks points) (x ∷ (rows ++ taken (place + 1) ks points)) (IsPermutation-middle rows x (taken (place + 1) ks points)))
          (IsPermutation-append_right rows (x ∷ taken (place + 1) ks points) (taken (place + 1) ks (point ∷ points)) rest))

  -- a point of another field or measurement
  unnamed_rows : (named : Bool) (k : Key) (place : ℕ) (point : Cell × Value) (points : Points) → is_of measurement field point.0 ≡ false
      → is_series_of measurement k.0 ≡ true → pointwise nat_eq k.1 field ≡ named
      → (if named then map (at_place place) (rows_between from to (point ∷ points) k) else []) ≡ (if named then map (at_place place) (rows_between from to points k) else [])
  unnamed_rows false k place point points other series named = refl
  unnamed_rows true k place point points other series named = ap (map (at_place place)) (other_rows k point points (by (same_key (key_of point.0) k) refl))
    where
      by : (t : Bool) → same_key (key_of point.0) k ≡ t → t ≡ false
      by true e =
          let is = key_one (key_of point.0) k e in
          absurd (false≢true (sym other ∙ and_both (is_series_of measurement point.0.series) (pointwise nat_eq point.0.field field)
          (subst (λ (x : Key). is_series_of measurement x.0 ≡ true) (sym is) series)
          (subst (λ (x : Key). pointwise nat_eq x.1 field ≡ true) (sym is) named)))
      by false e = refl

  not_taken : (place : ℕ) (keys : List Key) (point : Cell × Value) (points : Points) → is_of measurement field point.0 ≡ false
      → AllByRecursion (λ k. is_series_of measurement k.0 ≡ true) keys → taken place keys (point ∷ points) ≡ taken place keys points
  not_taken place [] point points other h = refl
  not_taken place (k ∷ ks) point points other h =
      ap (λ (l : List Found). l ++ taken (place + 1) ks (point ∷ points)) (unnamed_rows (pointwise nat_eq k.1 field) k place point points other h.0 refl)
      ∙ ap (λ (l : List Found). rows_at field place k (rows_between from to points k) ++ l) (not_taken (place + 1) ks point points other h.1)

  no_points_taken : (place : ℕ) (keys : List Key) → taken place keys [] ≡ []
  no_points_taken place [] = refl
  no_points_taken place (k ∷ ks) = ap (λ (l : List Found). l ++ taken (place + 1) ks []) (by (pointwise nat_eq k.1 field)) ∙ no_points_taken (place + 1) ks
    where
      by : (t : Bool) → (if t then map (at_place place) [] else []) ≡ []
      by true = refl
      by false = refl

  module _ (keys : List Key) (sorted : IsStrictlySortedBy key_cmp keys) (series : AllByRecursion (λ k. is_series_of measurement k.0 ≡ true) keys) where
    -- a row of each point of the field, with the place of its key
    abbrev with_found : Bool → Cell × Value → List Found → List Found
    with_found named point rest = if named then found_of (place_of keys (key_of point.0)) point ∷ rest else rest

    expected : Points → List Found
    expected [] = []
    expected (point ∷ points) = with_found (is_of measurement field point.0) point (expected points)

    -- the point has its key among them, where it is of the field, and its time between the bounds
    pub record Fits (point : Cell × Value) : Type 0 where
      pub key : is_of measurement field point.0 ≡ true → Among keys (key_of point.0)
      pub inside : is_inside point.0 ≡ true

    all_taken : (points : Points) → AllByRecursion Fits points → IsPermutation (taken 0 keys points) (expected points)
    unfolding expected
    all_taken [] h = subst (λ (l : List Found). IsPermutation l []) (sym (no_points_taken 0 keys)) (IsPermutation-refl [])
    all_taken (point ∷ points) h = by (is_of measurement field point.0) refl (all_taken points h.1)
      where
        by : (t : Bool) → is_of measurement field point.0 ≡ t → IsPermutation (taken 0 keys points) (expected points) → IsPermutation (taken 0 keys (point ∷ points)) (with_found t point (expected points))
        by true e next =
            let x = found_of (place_of keys (key_of point.0)) point in
            let of_field = and_second (is_series_of measurement point.0.series) (pointwise nat_eq point.0.field field) e in
            let fits = h.0 in
            let more = one_more 0 keys point points sorted (fits.key e) of_field fits.inside in
            let here : IsPermutation (x ∷ taken 0 keys points) (taken 0 keys (point ∷ points)) =
            subst (λ (n : ℕ). IsPermutation (found_of n point ∷ taken 0 keys points) (taken 0 keys (point ∷ points))) (omega arith) more in
            IsPermutation-trans (taken 0 keys (point ∷ points)) (x ∷ taken 0 keys points) (x ∷ expected points)
            (IsPermutation-sym (x ∷ taken 0 keys points) (taken 0 keys (point ∷ points)) here)
            (IsPermutation-cons x (taken 0 keys points) (expected points) next)
        by false e next = subst (λ (l : List Found). IsPermutation l (expected points)) (sym (not_taken 0 keys point points e series)) next

    -- the rows of the points are those of the field
    rows_expected : (points : Points) → map row_found (expected points) ≡ rows_of measurement field points
    unfolding expected
    rows_expected [] = refl
    rows_expected (point ∷ points) = by (is_of measurement field point.0) (rows_expected points)
      where
        by : (t : Bool) → map row_found (expected points) ≡ rows_of measurement field points → map row_found (with_found t point (expected points)) ≡ (if t then row_of point ∷ rows_of measurement field points else rows_of measurement field points)
        by true next = ap (λ (l : List Row). row_of point ∷ l) next
        by false next = next

    -- cells that ascend have rows that do
    cells_less : (first second series_order field_order : Ordering) → field_order ≡ Equal → ordering_then (ordering_then first series_order) field_order ≡ Less
        → (series_order ≡ Less → second ≡ Less) → ordering_then first second ≡ Less
    cells_less Less second s f equal less behind = refl
    cells_less Greater second s f equal less behind = less
    cells_less Equal second Less f equal less behind = behind refl
    cells_less Equal second Equal f equal less behind = let no : f ≡ Less = less in cc (no, equal)
    cells_less Equal second Greater f equal less behind = cc less

    less_from : (m n : ℕ) → m < n → nat_cmp m n ≡ Less
    less_from m n low = sym (nat_cmp_is m n Less low)

    found_less : (p q : Cell × Value) → Fits p → Fits q → is_of measurement field p.0 ≡ true → is_of measurement field q.0 ≡ true → cell_cmp p.0 q.0 ≡ Less
        → found_cmp (found_of (place_of keys (key_of p.0)) p) (found_of (place_of keys (key_of q.0)) q) ≡ Less
    found_less p q first second of other less =
        let one_field : p.0.field ≡ q.0.field =
        same_text p.0.field field (sym (and_second (is_series_of measurement p.0.series) (pointwise nat_eq p.0.field field) of))
        ∙ sym (same_text q.0.field field (sym (and_second (is_series_of measurement q.0.series) (pointwise nat_eq q.0.field field) other))) in
        let equal : slice_cmp nat_cmp p.0.field q.0.field ≡ Equal =
        subst (λ (f : List ℕ). slice_cmp nat_cmp p.0.field f ≡ Equal) one_field (tied_itself nat_list_cmp_total p.0.field) in
        cells_less (int_cmp p.0.time q.0.time) (nat_cmp (place_of keys (key_of p.0)) (place_of keys (key_of q.0))) (slice_cmp nat_cmp p.0.series q.0.series)
        (slice_cmp nat_cmp p.0.field q.0.field) equal less
        (λ series_less. less_from (place_of keys (key_of p.0)) (place_of keys (key_of q.0)) (places_less keys (key_of p.0) (key_of q.0) sorted (first.key of) (second.key other)
        (ap (λ (o : Ordering). ordering_then o (slice_cmp nat_cmp p.0.field q.0.field)) series_less)))

    all_behind : (p : Cell × Value) (points : Points) → Fits p → AllByRecursion Fits points → is_of measurement field p.0 ≡ true
        → AllByRecursion (λ c. cell_cmp p.0 c ≡ Less) (keys_of points) → AllByRecursion (λ f. found_cmp (found_of (place_of keys (key_of p.0)) p) f ≡ Less) (expected points)
    unfolding expected
    all_behind p [] first h of less = tt
    all_behind p (q ∷ points) first h of less = by (is_of measurement field q.0) refl (all_behind p points first h.1 of less.1)
      where
        by : (t : Bool) → is_of measurement field q.0 ≡ t → AllByRecursion (λ f. found_cmp (found_of (place_of keys (key_of p.0)) p) f ≡ Less) (expected points) → AllByRecursion (λ f. found_cmp (found_of (place_of keys (key_of p.0)) p) f ≡ Less) (with_found t q (expected points))
        by true e next = (found_less p q first h.0 of e less.0, next)
        by false e next = next

    expected_sorted : (points : Points) → AllByRecursion Fits points → IsStrictlySortedBy cell_cmp (keys_of points) → IsStrictlySortedBy found_cmp (expected points)
    unfolding expected IsStrictlySortedBy
    expected_sorted [] h order = tt
    expected_sorted (p ∷ points) h order = by (is_of measurement field p.0) refl (expected_sorted points h.1 order.1)
      where
        by : (t : Bool) → is_of measurement field p.0 ≡ t → IsStrictlySortedBy found_cmp (expected points) → IsStrictlySortedBy found_cmp (with_found t p (expected points))
        by true e next = (all_behind p points h.0 h.1 e order.0, next)
        by false e next = next

    -- the rows of the keys, in order, are those of the field
    pub in_order_rows : (points : Points) (order : List Found) → AllByRecursion Fits points → IsStrictlySortedBy cell_cmp (keys_of points)
        → IsPermutation (taken 0 keys points) order → AreInOrder order → map row_found order ≡ rows_of measurement field points
    in_order_rows points order h cells same ascends =
        ap (map row_found) (order_one order (expected points) ascends
        (IsPermutation-trans (expected points) (taken 0 keys points) order (IsPermutation-sym (taken 0 keys points) (expected points) (all_taken points h)) same)
        (expected_sorted points h cells))
        ∙ rows_expected points

-- What a view gives.

all_from : {X : Type 0} (P : X → Type 0) (xs : List X) → ((x : X) → Among xs x → P x) → AllByRecursion P xs
all_from P [] h = tt
all_from P (x ∷ xs) h = (h x (inl refl), all_from P xs (λ y m. h y (inr m)))

true_from : (b : Bool) → T b → b ≡ true
true_from true h = refl
true_from false h = absurd h

-- a cell of the points has a value there
held_at : (cell : Cell) (points : Points) (point : Cell × Value) → Among points point → is_at (cell_cmp cell) point.0 ≡ true → IsSome (value_at points cell)
held_at cell [] point m same = absurd m
held_at cell (first ∷ points) point m same = by (is_at (cell_cmp cell) first.0) refl (λ n. held_at cell points point n same)
  where
    by : (t : Bool) → is_at (cell_cmp cell) first.0 ≡ t → (Among points point → IsSome (value_at points cell)) → IsSome (if t then Some first.1 else value_at points cell)
    by true e next = refl
    by false e next = next (behind m)
      where
        behind : Among (first ∷ points) point → Among points point
        behind (inl is) = absurd (false≢true (sym e ∙ ap (λ (p : Cell × Value). is_at (cell_cmp cell) p.0) is ∙ same))
        behind (inr n) = n

cell_total : IsTotalOrder cell_cmp
cell_total = then_total (then_total (on_total (λ (c : Cell). c.time) int_cmp_total) (on_total (λ (c : Cell). c.series) nat_list_cmp_total)) (on_total (λ (c : Cell). c.field) nat_list_cmp_total)

at_itself : (cell : Cell) → is_at (cell_cmp cell) cell ≡ true
at_itself cell = ap is_eq (tied_itself cell_total cell)

always_met : (series : List ℕ) → meets True series ≡ true
always_met series = refl

meets_all : (need : Need) (series : List ℕ) → AsksAll need → meets need.tags series ≡ true
meets_all need series all = ap (λ (tags : Condition). meets tags series) all.tags ∙ always_met series

inside_all : (need : Need) (time : ℤ) → AsksAll need → IsMoment time → (int_le need.from time && int_le time need.to) ≡ true
inside_all need time all moment =
    let least : int_le (negsuc 9223372036854775805) time ≡ true = let h = moment.least in true_from (int_le (negsuc 9223372036854775805) time) h.le in
    let greatest : int_le time (pos 9223372036854775806) ≡ true = let h = moment.greatest in true_from (int_le time (pos 9223372036854775806)) h.le in
    and_both (int_le need.from time) (int_le time need.to) (ap (λ (t : ℤ). int_le t time) all.from ∙ least) (ap (int_le time) all.to ∙ greatest)

-- the rows that a view of all points gives of a field, in order, are the field's
pub view_rows : (points : Points) (need : Need) (shown : Shown) (field : List ℕ) (left : List (List Row)) (order : List Found)
    → IsStrictlySortedBy cell_cmp (keys_of points) → All (λ point. IsMoment point.0.time) points → Gives points need shown → AsksAll need → shown.left ≡ Some left
    → IsPermutation (rows_from field 0 shown.keys left) order → AreInOrder order → map row_found order ≡ rows_of need.measurement field points
view_rows points need shown field left order cells timed gives all tells same sorted =
    let keys = shown.keys in
    let series : AllByRecursion (λ k. is_series_of need.measurement k.0 ≡ true) keys =
    all_from (λ (k : Key). is_series_of need.measurement k.0 ≡ true) keys
    (λ k m. let held = (gives.keys.exact k).0 (contains_from keys k m) in and_first (is_series_of need.measurement k.0) (meets need.tags k.0) held.2) in
    let fits : AllByRecursion (Fits need.measurement field need.from need.to keys gives.keys.ascend series) points =
    all_from (Fits need.measurement field need.from need.to keys gives.keys.ascend series) points
    (λ p m. record {
      key = λ of. among_from keys (key_of p.0) ((gives.keys.exact (key_of p.0)).1 (
        p.0.time,
        held_at p.0 points p m (at_itself p.0),
        and_both (is_series_of need.measurement p.0.series) (meets need.tags p.0.series)
            (and_first (is_series_of need.measurement p.0.series) (pointwise nat_eq p.0.field field) of) (meets_all need p.0.series all),
      ));
      inside = inside_all need p.0.time all (moment_of p m);
    }) in
    let rows : left ≡ map (rows_between need.from need.to points) keys =
    some_one left (map (rows_needed need points) keys) (sym tells ∙ gives.rows)
    ∙ ap (λ (d : Bool). map (λ (k : Key). in_order d (rows_between need.from need.to points k)) keys) all.ascending in
    in_order_rows need.measurement field need.from need.to keys gives.keys.ascend series points order fits cells
    (subst (λ (l : List (List Row)). IsPermutation (rows_from field 0 keys l) order) rows same) sorted
  where
    some_one : (a b : List (List Row)) → Some a ≡ Some b → a ≡ b
    some_one a b e = cc e

    moment_of : (p : Cell × Value) → Among points p → IsMoment p.0.time
    moment_of p m = all_among (λ (q : Cell × Value). IsMoment q.0.time) points p (recursion_from_All (λ (q : Cell × Value). IsMoment q.0.time) points timed) m
