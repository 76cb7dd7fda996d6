-- What is known of a key with points.
use Rattle.std.proofs.Common.{◌≡◌, ◌≢◌, ◌∙◌, ap, sym, refl, subst, ⊎_elim, ℕ, ℤ, ◌<ℤ◌, Bool, true, false, cond, List, [], ◌∷◌, Option, Some, None, IsSome, is_some, option_and_then, nat_eq, arith}
use Rattle.std.specs.Cmp.Lexicographic.{pointwise}
use Rattle.std.specs.List.{AllByRecursion}
use Rattle.std.specs.Ordering.{int_eq}
use Rattle.std.proofs.lemmas.Bool.{cases_Bool, false≢true}
use Rattle.std.proofs.lemmas.Int.{ints}
use Rattle.tsdb_types.specs.Values.{kind_of}
use Rattle.tsdb_types.specs.declared.point.Cell.{Cell}
use Rattle.tsdb_types.specs.declared.value.Value.{Value}
use Rattle.tsdb_types.specs.declared.value.Kind.{Kind}
use Rattle.point_model.specs.Cursors.{Key, cell_at}
use Rattle.point_model.specs.Points as model
use Rattle.point_model.specs.Rows.{Row}
use Rattle.point_model.proofs.StoredLemmas.{none_some, some_values}
use Rattle.point_cache.specs.declared.key_points.KeyRun.{KeyRun}
use Rattle.point_cache.specs.Cached.{AreAscending, IsRun, later, latest, points_at, value_at}
use Rattle.point_cache.proofs.LatestLemmas.{same_time, time_same}
use Rattle.live_points.specs.Held.{composite, cut, first_kind, kind_at, points_of}
use Rattle.live_points.specs.Known.{Holds, IsKnown, Keys, Samples, kind_in, sample_of}
use Rattle.live_points.proofs.CutLemmas.{cut_composite}
use Rattle.live_points.proofs.HeldLemmas.{IsCut, held_value, none_elsewhere}
use Rattle.live_points.proofs.SetLemmas.{all_cut, decided, first_there}

pub value_there : {X : Type 0} (o : Option X) → IsSome o → (x : X) × (o ≡ Some x)
value_there None i = absurd (false≢true i)
value_there (Some x) i = (x, refl)

pub none_after : (time : ℤ) (rows : List Row) → AllByRecursion (λ behind. time <ℤ behind.0) rows → latest rows time ≡ None
none_after time [] after = refl
none_after time (row ∷ rows) after =
    let before = after.0 in
    let apart : int_eq time row.0 ≡ false =
    ⊎_elim
    (λ (e : int_eq time row.0 ≡ true). let same = same_time time row.0 e in absurd (omega (arith, ints)))
    (λ (e : int_eq time row.0 ≡ false). e)
    (cases_Bool (int_eq time row.0)) in
    ap (λ (b : Bool). later (cond b (Some row.1) None) (latest rows time)) apart ∙ ap (later None) (none_after time rows after.1)

-- rows that ascend have the value of their first at its time
first_value : (row : Row) (rows : List Row) → AreAscending (row ∷ rows) → latest (row ∷ rows) row.0 ≡ Some row.1
first_value row rows ascending =
    ap (λ (b : Bool). later (cond b (Some row.1) None) (latest rows row.0)) (time_same row.0 row.0 refl)
    ∙ ap (later (Some row.1)) (none_after row.0 rows ascending.0)

pub ascending_at : (runs : List KeyRun) → AllByRecursion IsRun runs → (bytes : List ℕ) → AreAscending (points_at runs bytes)
ascending_at [] each bytes = tt
ascending_at (run ∷ runs) each bytes = by (pointwise nat_eq bytes run.key) (ascending_at runs each.1 bytes)
  where
    by : (b : Bool) → AreAscending (points_at runs bytes) → AreAscending (cond b run.points (points_at runs bytes))
    by true behind = each.0.ascending
    by false behind = behind

-- a key has a kind where it has a value at some time
pub kind_value : (runs : List KeyRun) → AllByRecursion IsRun runs → (key : Key) (kind : Kind) → kind_at runs key ≡ Some kind
    → (time : ℤ) × (value : Value) × (value_at runs (composite key) time ≡ Some value) × (kind_of value ≡ kind)
kind_value runs each key kind e = by (points_at runs (composite key)) (ascending_at runs each (composite key)) e
  where
    by : (rows : List Row) → AreAscending rows → first_kind rows ≡ Some kind → (time : ℤ) × (value : Value) × (latest rows time ≡ Some value) × (kind_of value ≡ kind)
    by [] ascending is = absurd (none_some kind is)
    by (row ∷ rows) ascending is = (row.0, row.1, first_value row rows ascending, some_values (kind_of row.1) kind is)

pub some_kind_value : (runs : List KeyRun) (key : Key) → IsSome (kind_at runs key) → (time : ℤ) × IsSome (value_at runs (composite key) time)
some_kind_value runs key some = by (points_at runs (composite key)) some
  where
    by : (rows : List Row) → IsSome (first_kind rows) → (time : ℤ) × IsSome (latest rows time)
    by [] is = absurd (false≢true is)
    by (row ∷ rows) is = (row.0, first_there row rows)

pub value_kind : (runs : List KeyRun) (key : Key) (time : ℤ) → IsSome (value_at runs (composite key) time) → IsSome (kind_at runs key)
value_kind runs key time some = by (points_at runs (composite key)) some
  where
    by : (rows : List Row) → IsSome (latest rows time) → IsSome (first_kind rows)
    by [] is = absurd (false≢true is)
    by (row ∷ rows) is = refl

-- the sample of a field, and the kind of its points
pub sample_key : (runs : List KeyRun) (samples : Samples) (measurement field : List ℕ) (kind : Kind) → kind_in runs samples measurement field ≡ Some kind
    → (series : List ℕ) × (sample_of samples measurement field ≡ Some series) × (kind_at runs (series, field) ≡ Some kind)
sample_key runs samples measurement field kind e = by (sample_of samples measurement field) refl e
  where
    by : (o : Option (List ℕ)) → sample_of samples measurement field ≡ o → option_and_then (λ (series : List ℕ). kind_at runs (series, field)) o ≡ Some kind
        → (series : List ℕ) × (sample_of samples measurement field ≡ Some series) × (kind_at runs (series, field) ≡ Some kind)
    by None is h = absurd (none_some kind h)
    by (Some series) is h = (series, is, h)

-- What is known of a cell with a value.
pub record IsHeld (runs : List KeyRun) (keys : Keys) (key : Key) (time : ℤ) (value : Value) : Type 0 where
  pub known : IsKnown keys key
  pub own : cut (composite key) ≡ key
  pub kind : IsSome (kind_at runs key)
  pub at : value_at runs (composite key) time ≡ Some value

module _ (runs : List KeyRun) (keys : Keys) (samples : Samples) (holds : Holds runs keys samples) where
  pub cuts : AllByRecursion IsCut runs
  cuts = all_cut runs holds.are_runs.each (λ bytes time some. (holds.known bytes time some).1)

  pub own_key : (key : Key) → IsKnown keys key → cut (composite key) ≡ key
  own_key key known = cut_composite key (holds.marked key known)

  -- the points have at a known key what the runs have
  pub value_of_key : (key : Key) → IsKnown keys key → (time : ℤ) → model.value_at (points_of runs) (cell_at key time) ≡ value_at runs (composite key) time
  value_of_key key known time = held_value runs cuts holds.are_runs.apart key (own_key key known) time

  pub held : (cell : Cell) (value : Value) → model.value_at (points_of runs) cell ≡ Some value → IsHeld runs keys (cell.series, cell.field) cell.time value
  held cell value e =
      ⊎_elim
      (λ (own : cut (composite (cell.series, cell.field)) ≡ (cell.series, cell.field)).
      let key : Key = (cell.series, cell.field) in
      let at : value_at runs (composite key) cell.time ≡ Some value = sym (held_value runs cuts holds.are_runs.apart key own cell.time) ∙ e in
      let some : IsSome (value_at runs (composite key) cell.time) = ap is_some at in
      let is : IsHeld runs keys key cell.time value = record {
        known = subst (λ (k : Key). IsKnown keys k) own (holds.known (composite key) cell.time some).0;
        own = own;
        kind = value_kind runs key cell.time some;
        at = at;
      } in
      is)
      (λ (elsewhere : cut (composite (cell.series, cell.field)) ≢ (cell.series, cell.field)).
      absurd (none_some value (sym (none_elsewhere runs cuts cell elsewhere) ∙ e)))
      (decided cell)

  -- a known key with a kind has a cell with a value of that kind
  pub cell_of_kind : (key : Key) (kind : Kind) → IsKnown keys key → kind_at runs key ≡ Some kind
      → (time : ℤ) × (value : Value) × (model.value_at (points_of runs) (cell_at key time) ≡ Some value) × (kind_of value ≡ kind)
  cell_of_kind key kind known e =
      let v = kind_value runs holds.are_runs.each key kind e in
      (v.0, v.1, value_of_key key known v.0 ∙ v.2, v.3)
