-- What the points that runs hold have at a cell, and how many they are.
use Rattle.std.proofs.Common.{◌≡◌, ◌≢◌, ◌∙◌, ap, sym, refl, ⊎_elim, ℕ, suc, ◌+◌, ℤ, ◌<ℤ◌, Bool, true, false, cond, ◌&&◌, T, List, [], ◌∷◌, length, map, Option, Some, None, nat_eq, arith, Ordering, Less, Equal, Greater}
use Rattle.std.specs.BTreeMap.{is_at}
use Rattle.std.specs.Cmp.{eq_by_cmp_equiv, int_cmp_total}
use Rattle.std.specs.Cmp.Lexicographic.{pointwise, slice_cmp, nat_list_cmp_total}
use Rattle.std.specs.FinMap.Entries.{is_sorted}
use Rattle.std.specs.List.{AllByRecursion}
use Rattle.std.specs.Option.{option_or}
use Rattle.std.specs.Ordering.{int_eq, nat_cmp, is_eq, match_ordering}
use Rattle.std.proofs.lemmas.Bool.{cases_Bool, cond-true, cond-false, false≢true}
use Rattle.std.proofs.lemmas.Int.{ints}
use Rattle.std.proofs.lemmas.List.Sums.{sum_by-append}
use Rattle.std.proofs.lemmas.Map.Views.{tells_apart}
use Rattle.tsdb_types.specs.declared.point.Cell.{Cell}
use Rattle.tsdb_types.specs.declared.point.Point.{Point}
use Rattle.tsdb_types.specs.declared.value.Value.{Value}
use Rattle.point_model.specs.Cursors.{Key, cell_at}
use Rattle.point_model.specs.Effects.{Effect, applied, set_by, written}
use Rattle.point_model.specs.Histories.{with_points}
use Rattle.point_model.specs.Points.{Points, cell_cmp, is_same_cell, value_at, with_point}
use Rattle.point_model.specs.Rows.{Row}
use Rattle.point_model.proofs.EffectLemmas.{value_after_write}
use Rattle.point_model.proofs.PointLemmas.{cell_test, cell_exact, sorted-with_points, value_at-with_point}
use Rattle.point_model.proofs.StoredLemmas.{none_some}
use Rattle.point_cache.specs.declared.key_points.KeyRun.{KeyRun}
use Rattle.point_cache.specs.Cached as cached
use Rattle.point_cache.specs.Cached.{AreApart, AreAscending, IsRun, count, later, latest, points_at}
use Rattle.point_cache.proofs.EntryLemmas.{same_key, key_same}
use Rattle.point_cache.proofs.LatestLemmas.{same_time}
use Rattle.live_points.specs.Held.{before_mark, behind_mark, composite, cut, point_of, points_of}

-- the key of the run is cut where it was joined
abbrev pub IsCut : KeyRun → Type 0
IsCut run = composite (cut run.key) ≡ run.key

same_text : (t : List ℕ) → is_at (slice_cmp nat_cmp t) t ≡ true
same_text t = let laws = eq_by_cmp_equiv nat_list_cmp_total in laws.refl t

turned_time : (a b : ℤ) → int_eq a b ≡ int_eq b a
turned_time a b = let laws = eq_by_cmp_equiv int_cmp_total in laws.symm a b

-- a row of a key is at that cell of the key which has its time
own_cell : (bytes : List ℕ) (time : ℤ) (row : Row) → is_same_cell (point_of bytes row).cell (cell_at (cut bytes) time) ≡ int_eq row.0 time
own_cell bytes time row =
    sym (cell_test (point_of bytes row).cell (cell_at (cut bytes) time))
    ∙ ap (λ (b : Bool). b && (is_at (slice_cmp nat_cmp (behind_mark bytes)) (behind_mark bytes) && int_eq row.0 time)) (same_text (before_mark bytes))
    ∙ ap (λ (b : Bool). b && int_eq row.0 time) (same_text (behind_mark bytes))

abbrev pub setting : Option Value → Effect
setting None = None
setting (Some value) = Some (Some value)

-- what the rows of a key write at its cell
own_rows : (bytes : List ℕ) (time : ℤ) (rows : List Row) → written (map (point_of bytes) rows) (cell_at (cut bytes) time) ≡ setting (latest rows time)
own_rows bytes time [] = refl
own_rows bytes time (row ∷ rows) =
    ap (λ (e : Effect). option_or e (set_by (point_of bytes row) (cell_at (cut bytes) time))) (own_rows bytes time rows)
    ∙ ap (λ (b : Bool). option_or (setting (latest rows time)) (cond b (Some (Some row.1)) None)) (own_cell bytes time row ∙ turned_time row.0 time)
    ∙ by (int_eq time row.0) (latest rows time)
  where
    by : (b : Bool) (found : Option Value) → option_or (setting found) (cond b (Some (Some row.1)) None) ≡ setting (later (cond b (Some row.1) None) found)
    by true None = refl
    by false None = refl
    by true (Some value) = refl
    by false (Some value) = refl

-- what they write at a cell that isn't the key's
other_rows : (bytes : List ℕ) (cell : Cell) (rows : List Row) → cell ≢ cell_at (cut bytes) cell.time → written (map (point_of bytes) rows) cell ≡ None
other_rows bytes cell [] apart = refl
other_rows bytes cell (row ∷ rows) apart =
    ap (λ (e : Effect). option_or e (set_by (point_of bytes row) cell)) (other_rows bytes cell rows apart)
    ∙ cond-false (is_same_cell (point_of bytes row).cell cell) (Some (Some row.1)) None
    (⊎_elim
    (λ (e : is_same_cell (point_of bytes row).cell cell ≡ true).
    let same : (point_of bytes row).cell ≡ cell = tells_apart cell_exact (point_of bytes row).cell cell e in
    let time : row.0 ≡ cell.time = ap (λ (c : Cell). c.time) same in
    absurd (apart (sym same ∙ ap (λ (t : ℤ). cell_at (cut bytes) t) time)))
    (λ (e : is_same_cell (point_of bytes row).cell cell ≡ false). e)
    (cases_Bool (is_same_cell (point_of bytes row).cell cell)))

set_or : (found was : Option Value) → was ≡ None → applied (setting found) was ≡ found
set_or None was none = none
set_or (Some value) was none = refl

points_apart : (bytes : List ℕ) (runs : List KeyRun) → AllByRecursion (λ other. bytes ≢ other.key) runs → points_at runs bytes ≡ []
points_apart bytes [] apart = refl
points_apart bytes (run ∷ runs) apart =
    ⊎_elim
    (λ (e : pointwise nat_eq bytes run.key ≡ true). absurd (apart.0 (same_key bytes run.key e)))
    (λ (e : pointwise nat_eq bytes run.key ≡ false). cond-false (pointwise nat_eq bytes run.key) run.points (points_at runs bytes) e ∙ points_apart bytes runs apart.1)
    (cases_Bool (pointwise nat_eq bytes run.key))

-- the points hold at a cell what the runs have at its key
pub held_value : (runs : List KeyRun) → AllByRecursion IsCut runs → AreApart runs → (key : Key) → cut (composite key) ≡ key → (time : ℤ)
    → value_at (points_of runs) (cell_at key time) ≡ cached.value_at runs (composite key) time
held_value [] cuts apart key own time = refl
held_value (run ∷ runs) cuts apart key own time =
    value_after_write (points_of runs) (map (point_of run.key) run.points) (cell_at key time)
    ∙ ⊎_elim
    (λ (e : pointwise nat_eq (composite key) run.key ≡ true).
    let is : composite key ≡ run.key = same_key (composite key) run.key e in
    let at : cell_at key time ≡ cell_at (cut run.key) time = ap (λ (k : Key). cell_at k time) (sym own ∙ ap cut is) in
    let none : value_at (points_of runs) (cell_at key time) ≡ None =
    held_value runs cuts.1 apart.1 key own time
    ∙ ap (λ (rows : List Row). latest rows time) (ap (λ (bytes : List ℕ). points_at runs bytes) is ∙ points_apart run.key runs apart.0) in
    ap (λ (w : Effect). applied w (value_at (points_of runs) (cell_at key time))) (ap (λ (c : Cell). written (map (point_of run.key) run.points) c) at ∙ own_rows run.key time run.points)
    ∙ set_or (latest run.points time) (value_at (points_of runs) (cell_at key time)) none
    ∙ sym (ap (λ (rows : List Row). latest rows time) (cond-true (pointwise nat_eq (composite key) run.key) run.points (points_at runs (composite key)) e)))
    (λ (e : pointwise nat_eq (composite key) run.key ≡ false).
    let apart_cell : cell_at key time ≢ cell_at (cut run.key) time = λ same.
    let keys : key ≡ cut run.key = ap (λ (c : Cell). (c.series, c.field)) same in
    false≢true (sym e ∙ key_same (composite key) run.key (ap composite keys ∙ cuts.0)) in
    ap (λ (w : Effect). applied w (value_at (points_of runs) (cell_at key time))) (other_rows run.key (cell_at key time) run.points apart_cell)
    ∙ held_value runs cuts.1 apart.1 key own time
    ∙ sym (ap (λ (rows : List Row). latest rows time) (cond-false (pointwise nat_eq (composite key) run.key) run.points (points_at runs (composite key)) e)))
    (cases_Bool (pointwise nat_eq (composite key) run.key))

-- at a cell whose key is cut elsewhere they hold nothing
pub none_elsewhere : (runs : List KeyRun) → AllByRecursion IsCut runs → (cell : Cell) → cut (composite (cell.series, cell.field)) ≢ (cell.series, cell.field)
    → value_at (points_of runs) cell ≡ None
none_elsewhere [] cuts cell elsewhere = refl
none_elsewhere (run ∷ runs) cuts cell elsewhere =
    let apart_cell : cell ≢ cell_at (cut run.key) cell.time = λ same.
    let keys : (cell.series, cell.field) ≡ cut run.key = ap (λ (c : Cell). (c.series, c.field)) same in
    elsewhere (ap (λ (k : Key). cut (composite k)) keys ∙ ap cut cuts.0 ∙ sym keys) in
    value_after_write (points_of runs) (map (point_of run.key) run.points) cell
    ∙ ap (λ (w : Effect). applied w (value_at (points_of runs) cell)) (other_rows run.key cell run.points apart_cell)
    ∙ none_elsewhere runs cuts.1 cell elsewhere

pub sorted_points : (runs : List KeyRun) → T (is_sorted cell_cmp (points_of runs))
sorted_points [] = tt
sorted_points (run ∷ runs) = sorted-with_points (points_of runs) (map (point_of run.key) run.points) (sorted_points runs)

-- ---- how many they are

one_more : (points : Points) (point : Point) → value_at points point.cell ≡ None → length (with_point points point) ≡ suc (length points)
one_more [] point none = refl
one_more (e ∷ points) point none = by (cell_cmp point.cell e.0) refl (λ n. one_more points point n)
  where
    by : (o : Ordering) → cell_cmp point.cell e.0 ≡ o → (value_at points point.cell ≡ None → length (with_point points point) ≡ suc (length points))
        → length (match_ordering o ((point.cell, point.value) ∷ e ∷ points) ((e.0, point.value) ∷ points) (e ∷ with_point points point)) ≡ suc (length (e ∷ points))
    by Less is later = refl
    by Equal is later =
        absurd (none_some e.1 (sym none ∙ cond-true (is_at (cell_cmp point.cell) e.0) (Some e.1) (value_at points point.cell) (ap is_eq is)))
    by Greater is later =
        ap suc (later (sym (cond-false (is_at (cell_cmp point.cell) e.0) (Some e.1) (value_at points point.cell) (ap is_eq is)) ∙ none))

abbrev Absent : List ℕ → Points → Row → Type 0
Absent bytes points row = value_at points (cell_at (cut bytes) row.0) ≡ None

still_absent : (bytes : List ℕ) (points : Points) (first : Row) (rows : List Row) → AllByRecursion (λ row. first.0 <ℤ row.0) rows → AllByRecursion (Absent bytes points) rows
    → AllByRecursion (Absent bytes (with_point points (point_of bytes first))) rows
still_absent bytes points first [] low none = tt
still_absent bytes points first (row ∷ rows) low none =
    let before = low.0 in
    let apart : int_eq first.0 row.0 ≡ false =
    ⊎_elim
    (λ (e : int_eq first.0 row.0 ≡ true). let same = same_time first.0 row.0 e in absurd (omega (arith, ints)))
    (λ (e : int_eq first.0 row.0 ≡ false). e)
    (cases_Bool (int_eq first.0 row.0)) in (
      value_at-with_point points (point_of bytes first) (cell_at (cut bytes) row.0)
          ∙ cond-false (is_at (cell_cmp (point_of bytes first).cell) (cell_at (cut bytes) row.0)) (Some first.1) (value_at points (cell_at (cut bytes) row.0)) (own_cell bytes row.0 first ∙ apart)
          ∙ none.0,
      still_absent bytes points first rows low.1 none.1,
    )

rows_more : (bytes : List ℕ) (rows : List Row) (points : Points) → AreAscending rows → AllByRecursion (Absent bytes points) rows
    → length (with_points points (map (point_of bytes) rows)) ≡ length points + length rows
rows_more bytes [] points ascending none = omega arith
rows_more bytes (row ∷ rows) points ascending none =
    let one = one_more points (point_of bytes row) none.0 in
    let more = rows_more bytes rows (with_point points (point_of bytes row)) ascending.1 (still_absent bytes points row rows ascending.0 none.1) in
    omega (arith, one, more)

all_absent : (bytes : List ℕ) (rows : List Row) (points : Points) → ((time : ℤ) → value_at points (cell_at (cut bytes) time) ≡ None) → AllByRecursion (Absent bytes points) rows
all_absent bytes [] points none = tt
all_absent bytes (row ∷ rows) points none = (none row.0, all_absent bytes rows points none)

pub held_count : (runs : List KeyRun) → AllByRecursion IsCut runs → AllByRecursion IsRun runs → AreApart runs → length (points_of runs) ≡ count runs
held_count [] cuts each apart = refl
held_count (run ∷ runs) cuts each apart =
    let none : (time : ℤ) → value_at (points_of runs) (cell_at (cut run.key) time) ≡ None = λ time.
    held_value runs cuts.1 apart.1 (cut run.key) (ap cut cuts.0) time
    ∙ ap (λ (rows : List Row). latest rows time) (ap (λ (bytes : List ℕ). points_at runs bytes) cuts.0 ∙ points_apart run.key runs apart.0) in
    let more = rows_more run.key run.points (points_of runs) each.0.ascending (all_absent run.key run.points (points_of runs) none) in
    let rest = held_count runs cuts.1 each.1 apart.1 in
    let counted : count (run ∷ runs) ≡ (0 + length run.points) + count runs = sum_by-append (λ (r : KeyRun). length r.points) (run ∷ []) runs in
    let sum : length (points_of runs) + length run.points ≡ (0 + length run.points) + count runs = omega (arith, rest) in
    more ∙ sum ∙ sym counted
