-- What the setting of points, and a deletion, leave of the points.
use Rattle.std.proofs.Common.{◌≡◌, ℕ, Bool, true, false, cond, not, ◌&&◌, T, List, [], ◌∷◌, Option, Some, None, refl, sym, ap, subst, ◌∙◌, Ordering, Less, Equal, Greater}
use Rattle.std.specs.Prelude.{filter}
use Rattle.std.specs.Ordering.{int_cmp, nat_cmp, ordering_then, eq_by_cmp, is_eq, is_lt, match_ordering}
use Rattle.std.specs.Cmp.{IsTotalOrder, then_total, on_total, int_cmp_total, eq_by_cmp_equiv}
use Rattle.std.specs.Cmp.Lexicographic.{slice_cmp, nat_list_cmp_total}
use Rattle.std.specs.FinMap.Entries.{put, find, is_sorted, below_all, is_sorted-put, is_sorted-where_key, find-put, find-where_key, by_order, same_entries}
use Rattle.std.specs.List.{AllByRecursion}
use Rattle.std.specs.List.Sorted.{IsStrictlySortedBy}
use Rattle.std.specs.BTreeMap.{insert_entry, is_at}
use Rattle.std.specs.Map.{lookup, keys_of}
use Rattle.std.proofs.lemmas.Map.Lookups.{CmpEqualImpliesEq, exact_bytes, exact_signed}
use Rattle.tsdb_types.specs.declared.point.Cell.{Cell}
use Rattle.tsdb_types.specs.declared.point.Point.{Point}
use Rattle.tsdb_types.specs.declared.value.Value.{Value}
use Rattle.point_model.specs.declared.deletion.Deletion.{Deletion}
use Rattle.point_model.specs.declared.entry.Entry.{Entry}
use Rattle.point_model.specs.declared.entry.Entry.TheVariants.{Write, Delete}
use Rattle.point_model.specs.Deletions.{is_deleted, without}
use Rattle.point_model.specs.Histories.{with_points, after, AreRegrouped, HaveOneEffect}
use Rattle.point_model.specs.Points.{Points, cell_cmp, is_same_cell, value_at, with_point}

pub cell_total : IsTotalOrder cell_cmp
cell_total = then_total (then_total (on_total (λ (c : Cell). c.time) int_cmp_total) (on_total (λ (c : Cell). c.series) nat_list_cmp_total)) (on_total (λ (c : Cell). c.field) nat_list_cmp_total)

equal_first : (a b : Ordering) → ordering_then a b ≡ Equal → a ≡ Equal
equal_first Less b e = e
equal_first Equal b e = refl
equal_first Greater b e = e

equal_second : (a b : Ordering) → ordering_then a b ≡ Equal → b ≡ Equal
equal_second Less b e = absurd (cc)
equal_second Equal b e = e
equal_second Greater b e = absurd (cc)

-- only equal cells tie
pub cell_exact : CmpEqualImpliesEq cell_cmp
cell_exact a b e =
    let front = equal_first (ordering_then (int_cmp a.time b.time) (slice_cmp nat_cmp a.series b.series)) (slice_cmp nat_cmp a.field b.field) e in
    let times = exact_signed a.time b.time (equal_first _ (slice_cmp nat_cmp a.series b.series) front) in
    let series = exact_bytes a.series b.series (equal_second (int_cmp a.time b.time) _ front) in
    let fields = exact_bytes a.field b.field (equal_second (ordering_then (int_cmp a.time b.time) (slice_cmp nat_cmp a.series b.series)) _ e) in
    λ i. record { time = times i; series = series i; field = fields i }

module _ {K X : Type 0} (R : K → K → Ordering) where
  pub find_is : (q : K) (es : List (K × X)) → find R q es ≡ lookup (is_at (R q)) es
  find_is q [] = refl
  find_is q (e ∷ es) = ap (λ (o : Option X). cond (eq_by_cmp R q e.0) (Some e.1) o) (find_is q es)

  put_is : (k : K) (v : X) (es : List (K × X)) → put R k v es ≡ insert_entry R es k v
  put_is k v [] = refl
  put_is k v (e ∷ es) =
      by (R k e.0) ∙ ap (λ (t : List (K × X)). match_ordering (R k e.0) ((k, v) ∷ e ∷ es) ((e.0, v) ∷ es) (e ∷ t)) (put_is k v es)
    where
      by : (o : Ordering) → by_order o ((k, v) ∷ e ∷ es) ((e.0, v) ∷ es) (e ∷ put R k v es) ≡ match_ordering o ((k, v) ∷ e ∷ es) ((e.0, v) ∷ es) (e ∷ put R k v es)
      by Less = refl
      by Equal = refl
      by Greater = refl

-- the value at a cell, where one point more is set
pub value_at-with_point : (points : Points) (point : Point) (q : Cell) → value_at (with_point points point) q ≡ cond (is_at (cell_cmp point.cell) q) (Some point.value) (value_at points q)
value_at-with_point points point q =
    sym (find_is cell_cmp q (with_point points point))
    ∙ ap (λ (es : Points). find cell_cmp q es) (sym (put_is cell_cmp point.cell point.value points))
    ∙ find-put cell_cmp cell_total q point.cell point.value points
    ∙ ap (λ (b : Bool). cond b (Some point.value) (find cell_cmp q points)) (let laws = eq_by_cmp_equiv cell_total in laws.symm q point.cell)
    ∙ ap (λ (o : Option Value). cond (is_at (cell_cmp point.cell) q) (Some point.value) o) (find_is cell_cmp q points)

pub sorted-with_point : (points : Points) (point : Point) → T (is_sorted cell_cmp points) → T (is_sorted cell_cmp (with_point points point))
sorted-with_point points point s =
    subst (λ (es : Points). T (is_sorted cell_cmp es)) (put_is cell_cmp point.cell point.value points) (is_sorted-put cell_cmp cell_total point.cell point.value points s)

tests_of : (a b d : Ordering) → (is_eq b && (is_eq d && is_eq a)) ≡ is_eq (ordering_then (ordering_then a b) d)
tests_of Less Less d = refl
tests_of Less Equal Less = refl
tests_of Less Equal Equal = refl
tests_of Less Equal Greater = refl
tests_of Less Greater d = refl
tests_of Equal Less d = refl
tests_of Equal Equal Less = refl
tests_of Equal Equal Equal = refl
tests_of Equal Equal Greater = refl
tests_of Equal Greater d = refl
tests_of Greater Less d = refl
tests_of Greater Equal Less = refl
tests_of Greater Equal Equal = refl
tests_of Greater Equal Greater = refl
tests_of Greater Greater d = refl

-- cells are equal where their series, their fields and their times are
pub cell_test : (a b : Cell) → (is_at (slice_cmp nat_cmp a.series) b.series && (is_at (slice_cmp nat_cmp a.field) b.field && is_at (int_cmp a.time) b.time)) ≡ is_at (cell_cmp a) b
cell_test a b = tests_of (int_cmp a.time b.time) (slice_cmp nat_cmp a.series b.series) (slice_cmp nat_cmp a.field b.field)

-- points in order stay so
pub sorted-with_points : (points : Points) (batch : List Point) → T (is_sorted cell_cmp points) → T (is_sorted cell_cmp (with_points points batch))
sorted-with_points points [] s = s
sorted-with_points points (point ∷ batch) s = sorted-with_points (with_point points point) batch (sorted-with_point points point s)

pub sorted-without : (points : Points) (deletion : Deletion) → T (is_sorted cell_cmp points) → T (is_sorted cell_cmp (without points deletion))
sorted-without points deletion s = is_sorted-where_key cell_cmp (λ (cell : Cell). not (is_deleted deletion cell)) points s

pub sorted-after : (points : Points) (history : List Entry) → T (is_sorted cell_cmp points) → T (is_sorted cell_cmp (after points history))
sorted-after points [] s = s
sorted-after points (Write client batch ∷ history) s = sorted-after (with_points points batch) history (sorted-with_points points batch s)
sorted-after points (Delete client deletion ∷ history) s = sorted-after (without points deletion) history (sorted-without points deletion s)

-- the value at a cell behind a deletion
pub value_at-without : (points : Points) (deletion : Deletion) (q : Cell) → value_at (without points deletion) q ≡ cond (not (is_deleted deletion q)) (value_at points q) None
value_at-without points deletion q =
    let stays : Cell → Bool = λ cell. not (is_deleted deletion cell) in
    sym (find_is cell_cmp q (without points deletion))
    ∙ find-where_key cell_cmp stays q (λ x e. ap stays (sym (cell_exact q x e))) points
    ∙ ap (λ (o : Option Value). cond (stays q) o None) (find_is cell_cmp q points)

-- the value of the last of these points, or the one that was there
abbrev pub last_or : Option Value → List Point → Option Value
last_or was [] = was
last_or was (point ∷ points) = last_or (Some point.value) points

abbrev pub of_cell : Cell → List Point → List Point
of_cell cell points = filter (λ point. is_same_cell cell point.cell) points

-- the value at a cell behind points that are set
pub value_at-with_points : (stored : Points) (points : List Point) (q : Cell) → value_at (with_points stored points) q ≡ last_or (value_at stored q) (of_cell q points)
value_at-with_points stored [] q = refl
value_at-with_points stored (point ∷ points) q =
    value_at-with_points (with_point stored point) points q
    ∙ ap (λ (o : Option Value). last_or o (of_cell q points))
    (value_at-with_point stored point q ∙ ap (λ (b : Bool). cond b (Some point.value) (value_at stored q)) (let laws = eq_by_cmp_equiv cell_total in laws.symm point.cell q))
    ∙ by (is_same_cell q point.cell)
  where
    by : (b : Bool) → last_or (cond b (Some point.value) (value_at stored q)) (of_cell q points) ≡ last_or (value_at stored q) (cond b (point ∷ of_cell q points) (of_cell q points))
    by true = refl
    by false = refl

less_test : (o : Ordering) → o ≡ Less → T (is_lt o)
less_test o e = subst (λ (x : Ordering). T (is_lt x)) (sym e) tt

both_tests : (a b : Bool) → T a → T b → T (a && b)
both_tests true b p q = q
both_tests false b p q = absurd p

module _ {K X : Type 0} (R : K → K → Ordering) where
  below_test : (x : K) (es : List (K × X)) → AllByRecursion (λ y. R x y ≡ Less) (keys_of es) → T (below_all R x es)
  below_test x [] h = tt
  below_test x (e ∷ es) h = both_tests (is_lt (R x e.0)) _ (less_test (R x e.0) h.0) (below_test x es h.1)

  pub sorted_test : (es : List (K × X)) → IsStrictlySortedBy R (keys_of es) → T (is_sorted R es)
  unfolding IsStrictlySortedBy
  sorted_test [] s = tt
  sorted_test (e ∷ es) s = both_tests (below_all R e.0 es) _ (below_test e.0 es s.0) (sorted_test es s.1)

-- maps with the same values are one
pub same_points : (points others : Points) → T (is_sorted cell_cmp points) → T (is_sorted cell_cmp others) → ((q : Cell) → value_at points q ≡ value_at others q) → points ≡ others
same_points points others s t same =
    same_entries cell_cmp cell_total cell_exact points others s t (λ q. find_is cell_cmp q points ∙ same q ∙ sym (find_is cell_cmp q others))

pub regrouped : (client other : ℕ) (points others : List Point) → AreRegrouped points others → HaveOneEffect (Write client points) (Write other others)
regrouped client other points others same stored sorted =
    let s = sorted_test cell_cmp stored sorted in
    same_points (with_points stored points) (with_points stored others) (sorted-with_points stored points s) (sorted-with_points stored others s)
    (λ q.
    value_at-with_points stored points q
    ∙ ap (λ (ps : List Point). last_or (value_at stored q) ps) (same q)
    ∙ sym (value_at-with_points stored others q))
