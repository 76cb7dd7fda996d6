-- What an accepted batch leaves of a store's fields.
use Rattle.std.proofs.Common.{◌≡◌, ◌∙◌, ap, sym, subst, refl, inl, inr, ⊎_elim, ◌⊎◌, Bool, true, false, cond, not, ◌&&◌, T, IsTrue, Option, Some, None, IsSome, is_some, List, [], ◌∷◌, ℕ, zero, suc, slice_get, option_and_then, Contains}
use Rattle.std.specs.FinMap.Entries.{is_sorted}
use Rattle.std.specs.Cmp.{eq_by_cmp_equiv}
use Rattle.std.specs.BTreeMap.{is_at}
use Rattle.std.proofs.lemmas.Bool.{cases_Bool, cond-true, cond-false, false≢true}
use Rattle.std.proofs.lemmas.Option.{slice_get_within, get_or_from_slice_get}
use Rattle.std.proofs.lemmas.Map.Views.{tells_apart}
use Rattle.tsdb_types.specs.Moments.{IsMoment}
use Rattle.tsdb_types.specs.Values.{kind_of}
use Rattle.tsdb_types.specs.declared.point.Cell.{Cell}
use Rattle.tsdb_types.specs.declared.point.Point.{Point}
use Rattle.tsdb_types.specs.declared.value.Value.{Value}
use Rattle.tsdb_types.specs.declared.value.Kind.{Kind}
use Rattle.point_model.specs.Acceptance.{Conflict, conflict, conflict_before, other_kind, IsWritable}
use Rattle.point_model.specs.Measurements.{measurement_head, is_same_field}
use Rattle.point_model.specs.Points.{Points, cell_cmp, value_at, with_point}
use Rattle.point_model.specs.declared.entry.Entry.{Entry}
use Rattle.point_model.specs.Histories.{with_points, after}
use Rattle.point_model.specs.declared.entry.Entry.TheVariants.{Write}
use Rattle.store_trait.specs.Slots.{Slots, Samples, slot_at, sample_of, held, Stays}
use Rattle.store_trait.specs.Plain.{Fits, Agrees, sample_value, Resamples, IsSampled, IsIn}
use Rattle.store_trait.proofs.ConflictLemmas.{found_among, none_other, none_some, some_values}
use Rattle.store_trait.proofs.KindLemmas.{same_field-sym, kind_same}
use Rattle.point_model.proofs.PointLemmas.{cell_total, cell_exact, value_at-with_point, sorted-with_point}
use Rattle.store_trait.proofs.SampleLemmas.{some_same}

-- a value behind a batch was there, or is one of the batch
pub from_where : (points : Points) (batch : List Point) (c : Cell) (v : Value) → value_at (with_points points batch) c ≡ Some v
    → (value_at points c ≡ Some v) ⊎ ((p : Point) × IsIn batch p × (p.cell ≡ c) × (p.value ≡ v))
from_where points [] c v e = inl e
from_where points (point ∷ batch) c v e =
    ⊎_elim
    (λ (before : value_at (with_point points point) c ≡ Some v).
    ⊎_elim
    (λ (b : is_at (cell_cmp point.cell) c ≡ true).
    inr (point, (0, refl), tells_apart cell_exact point.cell c b, some_values point.value v (sym (cond-true _ (Some point.value) (value_at points c) b) ∙ sym (value_at-with_point points point c) ∙ before)))
    (λ (b : is_at (cell_cmp point.cell) c ≡ false). inl (sym (cond-false _ (Some point.value) (value_at points c) b) ∙ sym (value_at-with_point points point c) ∙ before))
    (cases_Bool (is_at (cell_cmp point.cell) c)))
    (λ later. inr (later.0, (suc later.1.0, later.1.1), later.2, later.3))
    (from_where (with_point points point) batch c v e)

some_cond : (b : Bool) (v : Value) (o : Option Value) → IsSome o → IsSome (cond b (Some v) o)
some_cond true v o i = refl
some_cond false v o i = i

-- a cell that has a value goes on to have one
pub goes_on : (points : Points) (batch : List Point) (c : Cell) → IsSome (value_at points c) → IsSome (value_at (with_points points batch) c)
goes_on points [] c i = i
goes_on points (point ∷ batch) c i =
    goes_on (with_point points point) batch c (subst (λ (o : Option Value). IsSome o) (sym (value_at-with_point points point c)) (some_cond (is_at (cell_cmp point.cell) c) point.value (value_at points c) i))

-- each cell of the batch has a value behind it
pub is_set : (points : Points) (batch : List Point) (place : ℕ) (p : Point) → slice_get batch place ≡ Some p → IsSome (value_at (with_points points batch) p.cell)
is_set points [] place p e = absurd (none_some p e)
is_set points (point ∷ batch) zero p e =
    let same = some_values point p e in
    let laws = eq_by_cmp_equiv cell_total in
    subst (λ (q : Point). IsSome (value_at (with_points points (point ∷ batch)) q.cell)) same
    (goes_on (with_point points point) batch point.cell
    (ap is_some (value_at-with_point points point point.cell ∙ cond-true _ (Some point.value) (value_at points point.cell) (laws.refl point.cell))))
is_set points (point ∷ batch) (suc place) p e = is_set (with_point points point) batch place p e

no_first : (point : Point) (o : Option Kind) (behind : Option Conflict) → conflict_before point o behind ≡ None → (o ≡ None) × (behind ≡ None)
no_first point None behind e = (refl, e)
no_first point (Some kind) behind e = absurd (none_some _ (sym e))

-- a batch without a conflict has none at any point
each_accepted : (points : Points) (batch : List Point) → conflict points batch ≡ None → (place : ℕ) (p : Point) → slice_get batch place ≡ Some p → other_kind points p ≡ None
each_accepted points [] a place p e = absurd (none_some p e)
each_accepted points (point ∷ batch) a zero p e =
    subst (λ (q : Point). other_kind points q ≡ None) (some_values point p e) (no_first point (other_kind points point) (conflict points batch) a).0
each_accepted points (point ∷ batch) a (suc place) p e = each_accepted points batch (no_first point (other_kind points point) (conflict points batch) a).1 place p e

not_other : (a b : Bool) → (a && not b) ≡ false → a ≡ true → b ≡ true
not_other true true e t = refl
not_other true false e t = sym e
not_other false b e t = absurd (false≢true t)

-- its points have the kinds of their fields
pub kinds_agree : (points : Points) (batch : List Point) → conflict points batch ≡ None → (p : Point) → IsIn batch p → (c : Cell) (v : Value) → value_at points c ≡ Some v
    → IsTrue (is_same_field p.cell c) → kind_of v ≡ kind_of p.value
kinds_agree points batch a p there c v e same =
    let none = none_other points p (each_accepted points batch a there.0 p there.1) (c, v) (found_among c v points e) in
    kind_same (kind_of v) (kind_of p.value) (not_other (is_same_field p.cell c) _ none same)

contains : (batch : List Point) (p : Point) → IsIn batch p → Contains batch p
contains batch p there = (there.0, slice_get_within batch there.0 p there.1, get_or_from_slice_get batch there.0 p p there.1)

module _ (slots kept : Slots) (same : (q : Cell) → Stays (slot_at slots q) (slot_at kept q)) where
  -- where the slots stay, what samples hold does
  values_stay : (samples : Samples) (m f : List ℕ) → sample_value kept samples m f ≡ sample_value slots samples m f
  values_stay samples m f = by (sample_of samples m f)
    where
      by : (o : Option Cell) → option_and_then (λ (cell : Cell). held (slot_at kept cell)) o ≡ option_and_then (λ (cell : Cell). held (slot_at slots cell)) o
      by None = refl
      by (Some cell) = (same cell).same

  -- the room that is made for a batch changes no point
  pub prepared : (samples taken : Samples) (points : Points) (batch : List Point) → Resamples kept batch samples taken → Fits slots samples points → Fits kept taken points
  prepared samples taken points batch resamples fits = record {
    agrees = λ cell. (same cell).same ∙ fits.agrees cell;
    placed = λ m f cell is.
        ⊎_elim
        (λ before. fits.placed m f cell (sym before ∙ is))
        (λ put.
        let at : put.1.cell ≡ cell = some_same (sample_of taken m f) put.1.cell cell put.3 is in
        (ap (λ (c : Cell). measurement_head c.series) (sym at) ∙ put.4, ap (λ (c : Cell). c.field) (sym at) ∙ put.5))
        (resamples m f);
    sampled = λ cell some.
        let m = measurement_head cell.series in
        let f = cell.field in
        let had : IsSome (sample_value kept samples m f) = subst (λ (o : Option Value). IsSome o) (sym (values_stay samples m f)) (fits.sampled cell some) in
        ⊎_elim
        (λ (before : sample_of taken m f ≡ sample_of samples m f).
        subst (λ (o : Option Cell). IsSome (option_and_then (λ (c : Cell). held (slot_at kept c)) o)) (sym before) had)
        (λ put. absurd (false≢true (sym (ap is_some put.0) ∙ had)))
        (resamples m f);
    timed = fits.timed;
    one_kind = fits.one_kind;
  }

-- The batch is set: what the fields stand for are the points with it.
module _ (slots set : Slots) (samples : Samples) (points : Points) (batch : List Point) (fits : Fits slots samples points)
    (sampled : (p : Point) → IsIn batch p → IsSampled slots batch samples p) (accepted : conflict points batch ≡ None) (writable : IsWritable batch)
    (moments : (p : Point) → IsIn batch p → IsMoment p.cell.time)
    (agrees : Agrees set (with_points points batch)) where
  -- a sample that had a value has one
  still : (m f : List ℕ) → IsSome (sample_value slots samples m f) → IsSome (sample_value set samples m f)
  still m f some = by (sample_of samples m f) some
    where
      by : (o : Option Cell) → IsSome (option_and_then (λ (cell : Cell). held (slot_at slots cell)) o) → IsSome (option_and_then (λ (cell : Cell). held (slot_at set cell)) o)
      by None i = i
      by (Some cell) i =
          subst (λ (o : Option Value). IsSome o) (sym (agrees cell)) (goes_on points batch cell (subst (λ (o : Option Value). IsSome o) (fits.agrees cell) i))

  -- the field of each point of the batch has a sample with a value
  of_batch : (p : Point) → IsIn batch p → IsSome (sample_value set samples (measurement_head p.cell.series) p.cell.field)
  of_batch p there =
      ⊎_elim
      (λ some. still (measurement_head p.cell.series) p.cell.field some)
      (λ other.
      subst (λ (o : Option Cell). IsSome (option_and_then (λ (cell : Cell). held (slot_at set cell)) o)) (sym other.2)
      (subst (λ (o : Option Value). IsSome o) (sym (agrees other.0.cell)) (is_set points batch other.1.0 other.0 other.1.1)))
      (sampled p there)

  -- the value of the sample, whatever the cell is written as
  some_at : (c d : Cell) → c ≡ d → IsSome (sample_value set samples (measurement_head c.series) c.field) → IsSome (sample_value set samples (measurement_head d.series) d.field)
  some_at c d e i = subst (λ (q : Cell). IsSome (sample_value set samples (measurement_head q.series) q.field)) e i

  value_there : (o : Option Value) → IsSome o → (v : Value) × (o ≡ Some v)
  value_there None i = absurd (false≢true i)
  value_there (Some v) i = (v, refl)

  pub committed : Fits set samples (with_points points batch)
  committed = record {
    agrees = agrees;
    placed = fits.placed;
    sampled = λ cell some.
        let has = value_there (value_at (with_points points batch) cell) some in
        ⊎_elim
        (λ before. still (measurement_head cell.series) cell.field (fits.sampled cell (ap is_some before)))
        (λ new. some_at new.0.cell cell new.2 (of_batch new.0 new.1))
        (from_where points batch cell has.0 has.1);
    timed = λ cell some.
        let has = value_there (value_at (with_points points batch) cell) some in
        ⊎_elim
        (λ before. fits.timed cell (ap is_some before))
        (λ new. subst (λ (q : Cell). IsMoment q.time) new.2 (moments new.0 new.1))
        (from_where points batch cell has.0 has.1);
    one_kind = λ a b v w at_a at_b one.
        ⊎_elim
        (λ old_a.
        ⊎_elim
        (λ old_b. fits.one_kind a b v w old_a old_b one)
        (λ new_b.
        kinds_agree points batch accepted new_b.0 new_b.1 a v old_a
        (subst (λ (q : Cell). IsTrue (is_same_field q a)) (sym new_b.2) (same_field-sym a b one))
        ∙ ap kind_of new_b.3)
        (from_where points batch b w at_b))
        (λ new_a.
        ⊎_elim
        (λ old_b.
        sym (kinds_agree points batch accepted new_a.0 new_a.1 b w old_b (subst (λ (q : Cell). IsTrue (is_same_field q b)) (sym new_a.2) one) ∙ ap kind_of new_a.3))
        (λ new_b.
        ap kind_of (sym new_a.3)
        ∙ writable.one_kind new_a.0 new_b.0 (contains batch new_a.0 new_a.1) (contains batch new_b.0 new_b.1)
        (subst (λ (q : Cell). IsTrue (is_same_field q new_b.0.cell)) (sym new_a.2) (subst (λ (q : Cell). IsTrue (is_same_field a q)) (sym new_b.2) one))
        ∙ ap kind_of new_b.3)
        (from_where points batch b w at_b))
        (from_where points batch a v at_a);
  }
