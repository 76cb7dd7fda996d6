-- The keys and rows that are taken of the known keys and of the runs are those of the points.
use Rattle.std.proofs.Common.{◌≡◌, ◌∙◌, ap, sym, refl, subst, ⊎_elim, inl, inr, ◌&&◌, ◌++◌, ℕ, ℤ, Bool, true, false, cond, T, List, [], ◌∷◌, map, Option, Some, None, IsSome, is_some, Ordering, Less, Equal, Greater, ◌<ℤ◌, arith}
use Rattle.std.specs.BTreeSet.{IsOrdered}
use Rattle.std.specs.Cmp.{IsTotalOrder, then_total, on_total, int_cmp_total}
use Rattle.std.specs.Cmp.Lexicographic.{slice_cmp, nat_list_cmp_total}
use Rattle.std.specs.FinMap.Entries.{find, is_sorted, below_all, same_entries}
use Rattle.std.specs.List.{AllByRecursion}
use Rattle.std.specs.List.Sorted.{IsStrictlySortedBy}
use Rattle.std.specs.Ordering.{int_cmp, int_eq, nat_cmp, is_lt, eq_by_cmp, ordering_then}
use Rattle.std.proofs.lemmas.Bool.{cases_Bool, cond-true, cond-false, false≢true}
use Rattle.std.proofs.lemmas.Int.{ints}
use Rattle.std.proofs.lemmas.Map.Lookups.{CmpEqualImpliesEq, exact_bytes, exact_signed}
use Rattle.std.proofs.lemmas.Map.Views.{btree_set_contains_iff}
use Rattle.tsdb_types.specs.Series.{IsSeriesText}
use Rattle.tsdb_types.specs.declared.value.Value.{Value}
use Rattle.point_model.specs.declared.need.Need.{Need}
use Rattle.point_model.specs.Cursors.{Key, key_cmp, cell_at, in_order, rows_between, rows_needed, AreKeys}
use Rattle.point_model.specs.Points.{Points, value_at}
use Rattle.point_model.specs.Rows.{Row}
use Rattle.point_cache.specs.declared.key_points.KeyRun.{KeyRun}
use Rattle.point_cache.specs.Cached.{AreAscending, is_within, later, latest, points_at, rows_within}
use Rattle.point_cache.proofs.LatestLemmas.{same_time}
use Rattle.point_cache.proofs.OrderLemmas.{ascending-filter}
use Rattle.store_trait.proofs.InLemmas.{In, in_contains, contains_in, in_left, in_right, in_either, sorted_nil, sorted_cons, sorted_first, sorted_rest}
use Rattle.store_trait.proofs.RowLemmas.{sorted_between, find_between}
use Rattle.live_points.specs.Held.{composite, kind_at, points_of}
use Rattle.live_points.specs.Known.{Holds, IsKnown, Keys, Samples}
use Rattle.live_points.specs.Listed.{having_points, is_needed, listed, rows_taken}
use Rattle.live_points.proofs.HeldLemmas.{sorted_points}
use Rattle.live_points.proofs.KnownLemmas.{ascending_at, cell_of_kind, held, none_after, value_of_key, value_there}

-- ---- the order of keys

pub key_total : IsTotalOrder key_cmp
key_total = then_total (on_total (λ (k : Key). k.0) nat_list_cmp_total) (on_total (λ (k : Key). k.1) nat_list_cmp_total)

equal_first : (a b : Ordering) → ordering_then a b ≡ Equal → a ≡ Equal
equal_first Less b e = e
equal_first Equal b e = refl
equal_first Greater b e = e

equal_second : (a b : Ordering) → ordering_then a b ≡ Equal → b ≡ Equal
equal_second Less b e = absurd (cc)
equal_second Equal b e = e
equal_second Greater b e = absurd (cc)

pub key_exact : CmpEqualImpliesEq key_cmp
key_exact a b e =
    let series = exact_bytes a.0 b.0 (equal_first (slice_cmp nat_cmp a.0 b.0) (slice_cmp nat_cmp a.1 b.1) e) in
    let fields = exact_bytes a.1 b.1 (equal_second (slice_cmp nat_cmp a.0 b.0) (slice_cmp nat_cmp a.1 b.1) e) in
    λ i. (series i, fields i)

module _ (keys : Keys) (ordered : IsOrdered key_cmp keys) where
  pub known_in : (key : Key) → IsKnown keys key → In key keys.keys
  known_in key known = contains_in key keys.keys ((btree_set_contains_iff key_total key_exact keys key).0 known)

  pub in_known : (key : Key) → In key keys.keys → IsKnown keys key
  in_known key m = (btree_set_contains_iff key_total key_exact keys key).1 (in_contains key keys.keys m)

-- ---- which keys are listed

module _ (runs : List KeyRun) (need : Need) where
  having : (key : Key) → IsSome (kind_at runs key) → In key (having_points runs key)
  having key some = subst (λ (b : Bool). In key (cond b (key ∷ []) [])) (sym some) (inl refl)

  had : (key other : Key) → In other (having_points runs key) → (key ≡ other) × IsSome (kind_at runs other)
  had key other m = by (is_some (kind_at runs key)) refl m
    where
      by : (b : Bool) → is_some (kind_at runs key) ≡ b → In other (cond b (key ∷ []) []) → (key ≡ other) × IsSome (kind_at runs other)
      by true is n =
          let same : key ≡ other = ⊎_elim (λ (e : key ≡ other). e) (λ (never : In other []). absurd never) n in
          (same, ap (λ (k : Key). is_some (kind_at runs k)) (sym same) ∙ is)
      by false is n = absurd n

  pub key_listed : (keys : List Key) (key : Key) → In key keys → is_needed need key.0 ≡ true → IsSome (kind_at runs key) → In key (listed runs need keys)
  key_listed [] key m needed some = absurd m
  key_listed (first ∷ keys) key m needed some =
      ⊎_elim
      (λ (same : first ≡ key).
      subst (λ (b : Bool). In key (cond b (having_points runs first ++ listed runs need keys) (listed runs need keys))) (sym (ap (λ (k : Key). is_needed need k.0) same ∙ needed))
      (in_left key (having_points runs first) (listed runs need keys) (subst (λ (k : Key). In key (having_points runs k)) (sym same) (having key some))))
      (λ (later : In key keys). behind (is_needed need first.0) (key_listed keys key later needed some))
      m
    where
      behind : (b : Bool) → In key (listed runs need keys) → In key (cond b (having_points runs first ++ listed runs need keys) (listed runs need keys))
      behind true n = in_right key (having_points runs first) (listed runs need keys) n
      behind false n = n

  pub listed_key : (keys : List Key) (key : Key) → In key (listed runs need keys) → In key keys × (is_needed need key.0 ≡ true) × IsSome (kind_at runs key)
  listed_key [] key m = absurd m
  listed_key (first ∷ keys) key m = by (is_needed need first.0) refl m (λ later. listed_key keys key later)
    where
      by : (b : Bool) → is_needed need first.0 ≡ b → In key (cond b (having_points runs first ++ listed runs need keys) (listed runs need keys))
          → (In key (listed runs need keys) → In key keys × (is_needed need key.0 ≡ true) × IsSome (kind_at runs key))
          → In key (first ∷ keys) × (is_needed need key.0 ≡ true) × IsSome (kind_at runs key)
      by true is n later =
          ⊎_elim
          (λ (a : In key (having_points runs first)).
          let r = had first key a in
          (inl r.0, ap (λ (k : Key). is_needed need k.0) (sym r.0) ∙ is, r.1))
          (λ (b : In key (listed runs need keys)). let r = later b in (inr r.0, r.1, r.2))
          (in_either key (having_points runs first) (listed runs need keys) n)
      by false is n later = let r = later n in (inr r.0, r.1, r.2)

  pub listed_sorted : (keys : List Key) → IsStrictlySortedBy key_cmp keys → IsStrictlySortedBy key_cmp (listed runs need keys)
  listed_sorted [] s = sorted_nil key_cmp
  listed_sorted (first ∷ keys) s = by (is_needed need first.0) (is_some (kind_at runs first)) (listed_sorted keys (sorted_rest key_cmp first keys s))
    where
      below : (y : Key) → In y (listed runs need keys) → key_cmp first y ≡ Less
      below y m = sorted_first key_cmp first keys s y (listed_key keys y m).0

      by : (b has : Bool) → IsStrictlySortedBy key_cmp (listed runs need keys)
          → IsStrictlySortedBy key_cmp (cond b (cond has (first ∷ []) [] ++ listed runs need keys) (listed runs need keys))
      by true true t = sorted_cons key_cmp first (listed runs need keys) below t
      by true false t = t
      by false has t = t

-- ---- rows by time

t_both : (a b : Bool) → T a → T b → T (a && b)
t_both true b p q = q
t_both false b p q = p

below_rows : (time : ℤ) (rows : List Row) → AllByRecursion (λ behind. time <ℤ behind.0) rows → T (below_all int_cmp time rows)
below_rows time [] after = tt
below_rows time (row ∷ rows) after = t_both (is_lt (int_cmp time row.0)) _ (let low = after.0 in grind (arith, ints)) (below_rows time rows after.1)

sorted_rows : (rows : List Row) → AreAscending rows → T (is_sorted int_cmp rows)
sorted_rows [] ascending = tt
sorted_rows (row ∷ rows) ascending = t_both (below_all int_cmp row.0 rows) _ (below_rows row.0 rows ascending.0) (sorted_rows rows ascending.1)

-- in rows that ascend one finds the value at a time
find_latest : (time : ℤ) (rows : List Row) → AreAscending rows → find int_cmp time rows ≡ latest rows time
find_latest time [] ascending = refl
find_latest time (row ∷ rows) ascending =
    ⊎_elim
    (λ (e : int_eq time row.0 ≡ true).
    let none : latest rows time ≡ None = ap (λ (t : ℤ). latest rows t) (same_time time row.0 e) ∙ none_after row.0 rows ascending.0 in
    cond-true (eq_by_cmp int_cmp time row.0) (Some row.1) (find int_cmp time rows) e
    ∙ sym (ap (λ (b : Bool). later (cond b (Some row.1) None) (latest rows time)) e ∙ ap (later (Some row.1)) none))
    (λ (e : int_eq time row.0 ≡ false).
    cond-false (eq_by_cmp int_cmp time row.0) (Some row.1) (find int_cmp time rows) e
    ∙ find_latest time rows ascending.1
    ∙ sym (ap (λ (b : Bool). later (cond b (Some row.1) None) (latest rows time)) e ∙ later_none (latest rows time)))
    (cases_Bool (int_eq time row.0))
  where
    later_none : (o : Option Value) → later None o ≡ o
    later_none None = refl
    later_none (Some value) = refl

-- the value at a time between the bounds
latest_within : (from to : ℤ) (rows : List Row) (time : ℤ) → latest (rows_within from to rows) time ≡ cond (is_within from to time) (latest rows time) None
latest_within from to [] time = none_either (is_within from to time)
  where
    none_either : (b : Bool) → (let none : Option Value = None in none ≡ cond b None None)
    none_either true = refl
    none_either false = refl
latest_within from to (row ∷ rows) time =
    filtered (is_within from to row.0)
    ∙ ap (λ (o : Option Value). kept (is_within from to row.0) o) (latest_within from to rows time)
    ∙ by (int_eq time row.0) refl (is_within from to row.0) refl (is_within from to time) refl
  where
    value : Option Value
    value = cond (int_eq time row.0) (Some row.1) None

    kept : Bool → Option Value → Option Value
    kept b o = cond b (later value o) o

    filtered : (b : Bool) → latest (cond b (row ∷ rows_within from to rows) (rows_within from to rows)) time ≡ kept b (latest (rows_within from to rows) time)
    filtered true = refl
    filtered false = refl

    none_later : (o : Option Value) → o ≡ later None o
    none_later None = refl
    none_later (Some v) = refl

    by : (same : Bool) → int_eq time row.0 ≡ same → (inside : Bool) → is_within from to row.0 ≡ inside → (wanted : Bool) → is_within from to time ≡ wanted
        → cond inside (later (cond same (Some row.1) None) (cond wanted (latest rows time) None)) (cond wanted (latest rows time) None)
        ≡ cond wanted (later (cond same (Some row.1) None) (latest rows time)) None
    by true e true f true g = refl
    by true e true f false g = absurd (false≢true (sym g ∙ ap (is_within from to) (same_time time row.0 e) ∙ f))
    by true e false f true g = absurd (false≢true (sym f ∙ ap (is_within from to) (sym (same_time time row.0 e)) ∙ g))
    by true e false f false g = refl
    by false e true f true g = refl
    by false e true f false g = refl
    by false e false f true g = none_later (latest rows time)
    by false e false f false g = refl

module _ (runs : List KeyRun) (keys : Keys) (samples : Samples) (holds : Holds runs keys samples) (ordered : IsOrdered key_cmp keys) (need : Need) where
  abbrev points : Points
  points = points_of runs

  pub keys_are : AreKeys points need (listed runs need keys.keys)
  keys_are = record {
    ascend = listed_sorted runs need keys.keys ordered;
    exact = λ key. (
      λ c.
          let l = listed_key runs need keys.keys key (contains_in key (listed runs need keys.keys) c) in
          let kind = value_there (kind_at runs key) l.2 in
          let cell = cell_of_kind runs keys samples holds key kind.0 (in_known keys ordered key l.0) kind.1 in
          (cell.0, ap is_some cell.2, l.1),
      λ has.
          let value = value_there (value_at points (cell_at key has.0)) has.1 in
          let there = held runs keys samples holds (cell_at key has.0) value.0 value.1 in
          in_contains key (listed runs need keys.keys) (key_listed runs need keys.keys key (known_in keys ordered key there.known) has.2 there.kind),
    );
  }

  -- the rows of a known key
  rows_are : (key : Key) → IsKnown keys key → rows_taken runs need key ≡ rows_needed need points key
  rows_are key known =
      let rows = points_at runs (composite key) in
      let ascending = ascending_at runs holds.are_runs.each (composite key) in
      let inside = ascending-filter (λ (row : Row). is_within need.from need.to row.0) rows ascending in
      ap (λ (rs : List Row). in_order need.descending rs)
      (same_entries int_cmp int_cmp_total exact_signed (rows_within need.from need.to rows) (rows_between need.from need.to points key)
      (sorted_rows (rows_within need.from need.to rows) inside)
      (sorted_between need.from need.to key points (sorted_points runs))
      (λ time.
      find_latest time (rows_within need.from need.to rows) inside
      ∙ latest_within need.from need.to rows time
      ∙ ap (λ (o : Option Value). cond (is_within need.from need.to time) o None) (sym (value_of_key runs keys samples holds key known time))
      ∙ sym (find_between need.from need.to key time points)))

  pub all_rows_are : (some : List Key) → ((key : Key) → In key some → IsKnown keys key) → map (rows_taken runs need) some ≡ map (rows_needed need points) some
  all_rows_are [] known = refl
  all_rows_are (key ∷ some) known =
      ap (λ (row : List Row). row ∷ map (rows_taken runs need) some) (rows_are key (known key (inl refl)))
      ∙ ap (λ (rows : List (List Row)). rows_needed need points key ∷ rows) (all_rows_are some (λ other m. known other (inr m)))

  pub listed_known : (key : Key) → In key (listed runs need keys.keys) → IsKnown keys key
  listed_known key m = in_known keys ordered key (listed_key runs need keys.keys key m).0

text_in : (keys : List Key) → AllByRecursion (λ key. IsSeriesText key.0) keys → (key : Key) → In key keys → IsSeriesText key.0
text_in [] texts key m = absurd m
text_in (first ∷ keys) texts key m =
    ⊎_elim (λ (same : first ≡ key). subst (λ (k : Key). IsSeriesText k.0) same texts.0) (λ (later : In key keys). text_in keys texts.1 key later) m

-- the series of listed keys are keys of series
pub listed_texts : (runs : List KeyRun) (need : Need) (keys : List Key) → AllByRecursion (λ key. IsSeriesText key.0) keys
    → (series field : List ℕ) → In (series, field) (listed runs need keys) → IsSeriesText series
listed_texts runs need keys texts series field m = text_in keys texts (series, field) (listed_key runs need keys (series, field) m).0
