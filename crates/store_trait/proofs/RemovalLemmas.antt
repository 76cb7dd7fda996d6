-- What a removal that is carried out leaves of a store's fields.
use Rattle.std.proofs.Common.{◌≡◌, ◌≢◌, ◌∙◌, ap, sym, refl, subst, ⊎_elim, ◌&&◌, ℕ, Bool, true, false, cond, List, Option, Some, None, IsSome, is_some, option_and_then}
use Rattle.std.specs.BTreeMap.{BTreeMap, get, is_at, IsOrdered}
use Rattle.std.specs.Cmp.{eq_by_cmp_equiv}
use Rattle.std.specs.Cmp.Lexicographic.{nat_list_cmp_total}
use Rattle.std.proofs.lemmas.Bool.{cases_Bool, cond-true, cond-false, false≢true}
use Rattle.std.proofs.lemmas.Map.Lookups.{exact_bytes}
use Rattle.std.proofs.lemmas.Map.Views.{tells_apart}
use Rattle.tsdb_types.specs.Names.{IsName}
use Rattle.tsdb_types.specs.Series.{is_series_of, measurement_text}
use Rattle.tsdb_types.specs.declared.point.Cell.{Cell}
use Rattle.tsdb_types.specs.declared.value.Value.{Value}
use Rattle.point_model.specs.declared.deletion.Deletion.{Deletion}
use Rattle.point_model.specs.Conditions.{meets}
use Rattle.point_model.specs.Deletions.{is_deleted, without}
use Rattle.point_model.specs.Measurements.{measurement_head}
use Rattle.point_model.specs.Points.{Points, value_at}
use Rattle.point_model.proofs.EffectLemmas.{value_without}
use Rattle.point_model.proofs.StoredLemmas.{from_before}
use Rattle.store_trait.specs.declared.removal.Removal.{Removal}
use Rattle.store_trait.specs.Plain.{Fits, sample_value}
use Rattle.store_trait.specs.Removals.{first_offered, series_kept, AreOrderedOf, IsRemovalOf, IsSpared}
use Rattle.store_trait.specs.Slots.{Slots, Samples, slot_at, sample_of, held, text_cmp}
use Rattle.store_trait.proofs.ConflictLemmas.{none_some, sample_cell}
use Rattle.store_trait.proofs.HeadLemmas.{of_measurement}
use Rattle.store_trait.proofs.KindLemmas.{and_first, and_both, text_itself, text_same}
use Rattle.store_trait.proofs.LeftLemmas.{left_placed, left_there}

pub value_there : (o : Option Value) → IsSome o → (v : Value) × (o ≡ Some v)
value_there None i = absurd (false≢true i)
value_there (Some v) i = (v, refl)

-- ---- the removal is made

pub is_removal : (deletion : Deletion) (slots : Slots) (removal : Removal) → IsName deletion.measurement → removal.heading ≡ measurement_text deletion.measurement
    → IsOrdered text_cmp slots → AreOrderedOf deletion slots.entries
    → ((field : List ℕ) → get text_cmp removal.samples field ≡ first_offered (series_kept deletion field) slots.entries)
    → IsRemovalOf deletion slots removal
is_removal deletion slots removal named heading sorted all left = record {
  named = named;
  heading = heading;
  placed = λ field cell is.
      let placed = left_placed deletion slots sorted all field cell (sym (left field) ∙ is) in (
        text_same (measurement_head cell.series) (measurement_text deletion.measurement) (sym (of_measurement deletion.measurement cell.series named) ∙ placed.0) ∙ sym heading,
        placed.1,
        placed.2,
      );
  sampled = λ cell spared head.
      subst (λ (o : Option Cell). IsSome o) (sym (left cell.field))
      (left_there deletion slots sorted all cell spared
      (of_measurement deletion.measurement cell.series named ∙ text_itself (measurement_head cell.series) (measurement_text deletion.measurement) (head ∙ heading)));
}

-- ---- the removal is carried out

held_without : (b : Bool) (slot : Option (Option Value)) → held (cond b None slot) ≡ cond b None (held slot)
held_without true slot = refl
held_without false slot = refl

not_deleted : (b : Bool) (was : Option Value) → IsSome (cond b None was) → (b ≡ false) × IsSome was
not_deleted true was some = absurd (false≢true some)
not_deleted false was some = (refl, some)

module _ (slots left : Slots) (samples taken : Samples) (points : Points) (deletion : Deletion) (removal : Removal) (fits : Fits slots samples points)
    (removes : IsRemovalOf deletion slots removal)
    (slots_are : (q : Cell) → slot_at left q ≡ cond (is_deleted deletion q) None (slot_at slots q))
    (samples_are : (m f : List ℕ) → sample_of taken m f
    ≡ cond (is_at (text_cmp removal.heading) m && is_some (get text_cmp samples removal.heading)) (get text_cmp removal.samples f) (sample_of samples m f)) where
  held_left : (q : Cell) → held (slot_at left q) ≡ cond (is_deleted deletion q) None (held (slot_at slots q))
  held_left q = ap held (slots_are q) ∙ held_without (is_deleted deletion q) (slot_at slots q)

  agree : (cell : Cell) → held (slot_at left cell) ≡ value_at (without points deletion) cell
  agree cell = held_left cell ∙ ap (λ (o : Option Value). cond (is_deleted deletion cell) None o) (fits.agrees cell) ∙ sym (value_without points deletion cell)

  -- a spared cell keeps its value
  spared_held : (cell : Cell) → IsSpared deletion slots cell → IsSome (held (slot_at left cell))
  spared_held cell spared =
      subst (λ (o : Option Value). IsSome o) (sym (held_left cell ∙ cond-false (is_deleted deletion cell) None (held (slot_at slots cell)) spared.1)) spared.0

  -- a cell with a value among the points that are left is spared
  spared : (cell : Cell) → IsSome (value_at (without points deletion) cell) → IsSpared deletion slots cell
  spared cell some =
      let was = not_deleted (is_deleted deletion cell) (held (slot_at slots cell)) (subst (λ (o : Option Value). IsSome o) (sym (agree cell) ∙ held_left cell) some) in
      (was.1, was.0)

  before : (cell : Cell) → IsSome (value_at (without points deletion) cell) → IsSome (value_at points cell)
  before cell some = subst (λ (o : Option Value). IsSome o) (fits.agrees cell) (spared cell some).0

  abbrev is_replaced : List ℕ → Bool
  is_replaced m = is_at (text_cmp removal.heading) m && is_some (get text_cmp samples removal.heading)

  replaced_head : (m : List ℕ) → is_replaced m ≡ true → removal.heading ≡ m
  replaced_head m e = tells_apart exact_bytes removal.heading m (and_first _ _ e)

  -- where a measurement with samples keeps them it isn't the removal's
  kept_head : (m f : List ℕ) (cell : Cell) → is_replaced m ≡ false → sample_of samples m f ≡ Some cell → m ≢ removal.heading
  kept_head m f cell e is same =
      let there : is_some (get text_cmp samples removal.heading) ≡ true =
      has (get text_cmp samples removal.heading) (ap (λ (h : List ℕ). sample_of samples h f) (sym same) ∙ is) in
      let itself : is_at (text_cmp removal.heading) m ≡ true =
      (let laws = eq_by_cmp_equiv nat_list_cmp_total in ap (is_at (text_cmp removal.heading)) same ∙ laws.refl removal.heading) in
      false≢true (sym e ∙ and_both _ _ itself there)
    where
      has : (o : Option (BTreeMap (List ℕ) Cell)) → option_and_then (λ (fields : BTreeMap (List ℕ) Cell). get text_cmp fields f) o ≡ Some cell → is_some o ≡ true
      has None is = absurd (none_some cell is)
      has (Some fields) is = refl

  -- a cell that is deleted is of the removal's measurement
  deleted_head : (cell : Cell) → is_deleted deletion cell ≡ true → measurement_head cell.series ≡ removal.heading
  deleted_head cell is =
      text_same (measurement_head cell.series) (measurement_text deletion.measurement)
      (sym (of_measurement deletion.measurement cell.series removes.named)
      ∙ and_first (is_series_of deletion.measurement cell.series) (meets deletion.tags cell.series) (and_first _ _ is))
      ∙ sym removes.heading

  placed_now : (measurement field : List ℕ) (cell : Cell) → sample_of taken measurement field ≡ Some cell → (measurement_head cell.series ≡ measurement) × (cell.field ≡ field)
  placed_now measurement field cell is =
      ⊎_elim
      (λ (e : is_replaced measurement ≡ true).
      let placed = removes.placed field cell
      (sym (cond-true (is_replaced measurement) (get text_cmp removal.samples field) (sample_of samples measurement field) e) ∙ sym (samples_are measurement field) ∙ is) in
      (placed.0 ∙ replaced_head measurement e, placed.1))
      (λ (e : is_replaced measurement ≡ false).
      fits.placed measurement field cell
      (sym (cond-false (is_replaced measurement) (get text_cmp removal.samples field) (sample_of samples measurement field) e) ∙ sym (samples_are measurement field) ∙ is))
      (cases_Bool (is_replaced measurement))

  sample_some : (m f : List ℕ) (cell : Cell) → sample_of taken m f ≡ Some cell → IsSome (held (slot_at left cell)) → IsSome (sample_value left taken m f)
  sample_some m f cell is some = subst (λ (o : Option Cell). IsSome (option_and_then (λ (c : Cell). held (slot_at left c)) o)) (sym is) some

  cell_there : (o : Option Cell) → IsSome o → (c : Cell) × (o ≡ Some c)
  cell_there None i = absurd (false≢true i)
  cell_there (Some c) i = (c, refl)

  sampled_now : (cell : Cell) → IsSome (value_at (without points deletion) cell) → IsSome (sample_value left taken (measurement_head cell.series) cell.field)
  sampled_now cell some =
      let m = measurement_head cell.series in
      let f = cell.field in
      ⊎_elim
      (λ (e : is_replaced m ≡ true).
      let sample = cell_there (get text_cmp removal.samples f) (removes.sampled cell (spared cell some) (sym (replaced_head m e))) in
      let placed = removes.placed f sample.0 sample.1 in
      sample_some m f sample.0
      (samples_are m f ∙ cond-true (is_replaced m) (get text_cmp removal.samples f) (sample_of samples m f) e ∙ sample.1)
      (spared_held sample.0 placed.2))
      (λ (e : is_replaced m ≡ false).
      let value = value_there (sample_value slots samples m f) (fits.sampled cell (before cell some)) in
      let sample = sample_cell slots samples m f value.0 value.1 in
      let placed = fits.placed m f sample.0 sample.1 in
      let apart : m ≢ removal.heading = kept_head m f sample.0 e sample.1 in
      sample_some m f sample.0
      (samples_are m f ∙ cond-false (is_replaced m) (get text_cmp removal.samples f) (sample_of samples m f) e ∙ sample.1)
      (spared_held sample.0 (
        ap is_some sample.2,
        ⊎_elim
            (λ (is : is_deleted deletion sample.0 ≡ true). absurd (apart (sym placed.0 ∙ deleted_head sample.0 is)))
            (λ (is : is_deleted deletion sample.0 ≡ false). is)
            (cases_Bool (is_deleted deletion sample.0)),
      )))
      (cases_Bool (is_replaced m))

  -- what the fields stand for are the points that the deletion leaves
  pub removed : Fits left taken (without points deletion)
  removed = record {
    agrees = agree;
    placed = placed_now;
    sampled = sampled_now;
    timed = λ cell some. fits.timed cell (before cell some);
    one_kind = λ a b v w at_a at_b one. fits.one_kind a b v w (from_before points deletion a v at_a) (from_before points deletion b w at_b) one;
  }
