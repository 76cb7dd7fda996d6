-- What a deletion leaves of the known keys, and what it meets.
use Rattle.std.proofs.Common.{◌≡◌, ◌∙◌, ap, sym, refl, subst, inl, inr, ⊎_elim, ◌&&◌, ℕ, zero, suc, ℤ, length, Bool, true, false, cond, List, [], ◌∷◌, filter, Option, Some, None, IsSome, is_some}
use Rattle.std.specs.BTreeMap.{get, is_at}
use Rattle.std.specs.BTreeSet.{IsOrdered}
use Rattle.std.specs.Cmp.{eq_by_cmp_equiv}
use Rattle.std.specs.Cmp.Lexicographic.{nat_list_cmp_total}
use Rattle.std.specs.List.{AllByRecursion}
use Rattle.std.specs.Option.{option_or}
use Rattle.std.proofs.lemmas.Bool.{false≢true}
use Rattle.std.proofs.lemmas.Map.Lookups.{exact_bytes}
use Rattle.std.proofs.lemmas.Map.Views.{tells_apart}
use Rattle.tsdb_types.specs.Keys.{IsFirstMark}
use Rattle.tsdb_types.specs.Names.{IsName}
use Rattle.tsdb_types.specs.Series.{is_series_of, measurement_text}
use Rattle.tsdb_types.specs.declared.point.Cell.{Cell}
use Rattle.tsdb_types.specs.declared.value.Value.{Value}
use Rattle.point_model.specs.declared.deletion.Deletion.{Deletion}
use Rattle.point_model.specs.Conditions.{meets}
use Rattle.point_model.specs.Cursors.{Key, key_cmp, cell_at}
use Rattle.point_model.specs.Deletions.{is_deleted, without}
use Rattle.point_model.specs.Measurements.{measurement_head}
use Rattle.point_model.specs.Points as model
use Rattle.point_model.specs.Points.{Points}
use Rattle.point_model.specs.Rows.{Row}
use Rattle.point_model.proofs.EffectLemmas.{value_without}
use Rattle.point_model.proofs.FieldLemmas.{and_both, and_first, and_second, text_itself, text_same}
use Rattle.point_model.proofs.StoredLemmas.{from_before, none_some, some_values}
use Rattle.point_cache.specs.declared.key_points.KeyRun.{KeyRun}
use Rattle.point_cache.specs.Cached.{is_within, latest, points_at, rows_outside}
use Rattle.point_cache.proofs.CacheLemmas.{latest_outside}
use Rattle.store_trait.specs.Slots.{text_cmp}
use Rattle.store_trait.proofs.HeadLemmas.{of_measurement}
use Rattle.store_trait.proofs.InLemmas.{In}
use Rattle.live_points.specs.Held.{composite, first_kind, points_of}
use Rattle.live_points.specs.Known.{Holds, IsKnown, Keys, Samples}
use Rattle.live_points.specs.Removed.{HaveRoom, IsMetKey, IsOneOf, IsRemovalOf, IsSpared, first_left, is_left, is_met, rows_left}
use Rattle.live_points.specs.declared.removal.Removal.{Removal}
use Rattle.live_points.proofs.KnownLemmas.{held, value_of_key, value_there}
use Rattle.live_points.proofs.ListedLemmas.{in_known, known_in}
use Rattle.live_points.proofs.SetLemmas.{first_there}

-- the keys that a deletion meets
all_met : (deletion : Deletion) (keys : List Key) → ((key : Key) → In key keys → IsFirstMark (composite key) (length key.0)) → AllByRecursion (IsMetKey deletion) (filter (is_met deletion) keys)
all_met deletion [] marked = tt
all_met deletion (key ∷ keys) marked = by (is_met deletion key) refl (all_met deletion keys (λ other m. marked other (inr m)))
  where
    by : (b : Bool) → is_met deletion key ≡ b → AllByRecursion (IsMetKey deletion) (filter (is_met deletion) keys)
        → AllByRecursion (IsMetKey deletion) (cond b (key ∷ filter (is_met deletion) keys) (filter (is_met deletion) keys))
    by true is all = (record { met = is; marked = marked key (inl refl) }, all)
    by false is all = all

one_met : (deletion : Deletion) (key : Key) (keys : List Key) → In key keys → is_met deletion key ≡ true → IsOneOf (filter (is_met deletion) keys) key
one_met deletion key [] m is = absurd m
one_met deletion key (first ∷ keys) m is =
    ⊎_elim
    (λ (same : first ≡ key).
    subst (λ (b : Bool). IsOneOf (cond b (first ∷ filter (is_met deletion) keys) (filter (is_met deletion) keys)) key) (sym (ap (is_met deletion) same ∙ is)) (zero, ap Some same))
    (λ (later : In key keys). behind (is_met deletion first) (one_met deletion key keys later is))
    m
  where
    behind : (b : Bool) → IsOneOf (filter (is_met deletion) keys) key → IsOneOf (cond b (first ∷ filter (is_met deletion) keys) (filter (is_met deletion) keys)) key
    behind true there = (suc there.0, there.1)
    behind false there = there

module _ (runs : List KeyRun) (deletion : Deletion) where
  -- the first series of a field with rows left is that of a key with rows left
  pub left_key : (field series : List ℕ) (keys : List Key) → first_left runs deletion field keys ≡ Some series → In (series, field) keys × (is_left runs deletion (series, field) ≡ true)
  left_key field series [] e = absurd (none_some series e)
  left_key field series (key ∷ keys) e = by (is_left runs deletion key) refl (is_at (text_cmp key.1) field) refl (λ h. let later = left_key field series keys h in (inr later.0, later.1)) e
    where
      by : (left : Bool) → is_left runs deletion key ≡ left → (own : Bool) → is_at (text_cmp key.1) field ≡ own
          → (first_left runs deletion field keys ≡ Some series → In (series, field) (key ∷ keys) × (is_left runs deletion (series, field) ≡ true))
          → option_or (cond (left && own) (Some key.0) None) (first_left runs deletion field keys) ≡ Some series
          → In (series, field) (key ∷ keys) × (is_left runs deletion (series, field) ≡ true)
      by true is true at behind h =
          let fields : key.1 ≡ field = tells_apart exact_bytes key.1 field at in
          let one : key.0 ≡ series = some_values key.0 series h in
          let same : key ≡ (series, field) = λ i. (one i, fields i) in
          (inl same, ap (is_left runs deletion) (sym same) ∙ is)
      by true is false at behind h = behind h
      by false is own at behind h = behind h

  -- the field of a key with rows left has such a series
  pub key_left : (key : Key) (keys : List Key) → In key keys → is_left runs deletion key ≡ true → IsSome (first_left runs deletion key.1 keys)
  key_left key [] m left = absurd m
  key_left key (first ∷ keys) m left =
      ⊎_elim
      (λ (same : first ≡ key).
      let here : (is_left runs deletion first && is_at (text_cmp first.1) key.1) ≡ true =
      ap (λ (k : Key). is_left runs deletion k && is_at (text_cmp k.1) key.1) same
      ∙ and_both (is_left runs deletion key) (is_at (text_cmp key.1) key.1) left (let laws = eq_by_cmp_equiv nat_list_cmp_total in laws.refl key.1) in
      subst (λ (b : Bool). IsSome (option_or (cond b (Some first.0) None) (first_left runs deletion key.1 keys))) (sym here) refl)
      (λ (later : In key keys).
      behind (cond (is_left runs deletion first && is_at (text_cmp first.1) key.1) (Some first.0) None) (first_left runs deletion key.1 keys) (key_left key keys later left))
      m
    where
      behind : (one other : Option (List ℕ)) → IsSome other → IsSome (option_or one other)
      behind None other some = some
      behind (Some s) other some = refl

  cond_rows : (key : Key) (met : Bool) → meets deletion.tags key.0 ≡ met
      → rows_left runs deletion key ≡ cond met (rows_outside deletion.from deletion.to (points_at runs (composite key))) (points_at runs (composite key))
  cond_rows key met is = ap (λ (b : Bool). cond b (rows_outside deletion.from deletion.to (points_at runs (composite key))) (points_at runs (composite key))) is

  module _ (keys : Keys) (samples : Samples) (holds : Holds runs keys samples) where
    -- the rows that are left have the values that the deletion leaves
    left_value : (key : Key) → IsKnown keys key → is_series_of deletion.measurement key.0 ≡ true → (time : ℤ)
        → latest (rows_left runs deletion key) time ≡ model.value_at (without (points_of runs) deletion) (cell_at key time)
    left_value key known of time =
        by (meets deletion.tags key.0) refl
        ∙ ap (λ (o : Option Value). cond (is_deleted deletion (cell_at key time)) None o) (sym (value_of_key runs keys samples holds key known time))
        ∙ sym (value_without (points_of runs) deletion (cell_at key time))
      where
        rows : List Row
        rows = points_at runs (composite key)

        tested : (met : Bool) → meets deletion.tags key.0 ≡ met → is_deleted deletion (cell_at key time) ≡ (met && is_within deletion.from deletion.to time)
        tested met is = ap (λ (b : Bool). (b && meets deletion.tags key.0) && is_within deletion.from deletion.to time) of ∙ ap (λ (b : Bool). b && is_within deletion.from deletion.to time) is

        by : (met : Bool) → meets deletion.tags key.0 ≡ met → latest (rows_left runs deletion key) time ≡ cond (is_deleted deletion (cell_at key time)) None (latest rows time)
        by true is =
            ap (λ (rs : List Row). latest rs time) (cond_rows key true is)
            ∙ latest_outside deletion.from deletion.to rows time
            ∙ sym (ap (λ (b : Bool). cond b None (latest rows time)) (tested true is))
        by false is = ap (λ (rs : List Row). latest rs time) (cond_rows key false is) ∙ sym (ap (λ (b : Bool). cond b None (latest rows time)) (tested false is))

    -- a known key with rows left has a spared cell
    spared_cell : (key : Key) → IsKnown keys key → is_left runs deletion key ≡ true → (time : ℤ) × IsSpared (points_of runs) deletion (cell_at key time)
    spared_cell key known left =
        let of = and_first (is_series_of deletion.measurement key.0) (is_some (first_kind (rows_left runs deletion key))) left in
        let row = by (rows_left runs deletion key) (and_second (is_series_of deletion.measurement key.0) (is_some (first_kind (rows_left runs deletion key))) left) in
        (row.0, subst (λ (o : Option Value). IsSome o) (left_value key known of row.0) row.1)
      where
        by : (rows : List Row) → is_some (first_kind rows) ≡ true → (time : ℤ) × IsSome (latest rows time)
        by [] is = absurd (false≢true is)
        by (row ∷ rows) is = (row.0, first_there row rows)

    -- the key of a spared cell of the measurement has rows left
    cell_left : (cell : Cell) → is_series_of deletion.measurement cell.series ≡ true → IsSpared (points_of runs) deletion cell
        → IsKnown keys (cell.series, cell.field) × (is_left runs deletion (cell.series, cell.field) ≡ true)
    cell_left cell of spared =
        let key : Key = (cell.series, cell.field) in
        let value = value_there (model.value_at (without (points_of runs) deletion) cell) spared in
        let there = held runs keys samples holds cell value.0 (from_before (points_of runs) deletion cell value.0 value.1) in (
          there.known,
          and_both (is_series_of deletion.measurement cell.series) (is_some (first_kind (rows_left runs deletion key))) of
              (by (rows_left runs deletion key) (subst (λ (o : Option Value). IsSome o) (sym (left_value key there.known of cell.time)) spared)),
        )
      where
        by : (rows : List Row) → IsSome (latest rows cell.time) → is_some (first_kind rows) ≡ true
        by [] is = absurd (false≢true is)
        by (row ∷ rows) is = refl

    module _ (ordered : IsOrdered key_cmp keys) (removal : Removal) (named : IsName deletion.measurement)
        (heading : removal.heading ≡ measurement_text deletion.measurement)
        (left : (field : List ℕ) → get text_cmp removal.samples field ≡ first_left runs deletion field keys.keys)
        (met : removal.keys.items ≡ filter (is_met deletion) keys.keys)
        (room : HaveRoom removal.buffer removal.keys.items) where
      pub is_removal : IsRemovalOf deletion (points_of runs) removal
      is_removal = record {
        named = named;
        heading = heading;
        met = subst (λ (ks : List Key). AllByRecursion (IsMetKey deletion) ks) (sym met) (all_met deletion keys.keys (λ key m. holds.marked key (in_known keys ordered key m)));
        all = λ cell some is.
            let value = value_there (model.value_at (points_of runs) cell) some in
            let there = held runs keys samples holds cell value.0 value.1 in
            subst (λ (ks : List Key). IsOneOf ks (cell.series, cell.field)) (sym met) (one_met deletion (cell.series, cell.field) keys.keys (known_in keys ordered (cell.series, cell.field) there.known) is);
        room = room;
        placed = λ field series is.
            let key = left_key field series keys.keys (sym (left field) ∙ is) in
            let of = and_first (is_series_of deletion.measurement series) (is_some (first_kind (rows_left runs deletion (series, field)))) key.1 in
            let cell = spared_cell (series, field) (in_known keys ordered (series, field) key.0) key.1 in
            (text_same (measurement_head series) (measurement_text deletion.measurement) (sym (of_measurement deletion.measurement series named) ∙ of) ∙ sym heading, cell.0, cell.1);
        sampled = λ cell spared head.
            let of : is_series_of deletion.measurement cell.series ≡ true =
            of_measurement deletion.measurement cell.series named ∙ text_itself (measurement_head cell.series) (measurement_text deletion.measurement) (head ∙ heading) in
            let key = cell_left cell of spared in
            subst (λ (o : Option (List ℕ)). IsSome o) (sym (left cell.field)) (key_left (cell.series, cell.field) keys.keys (known_in keys ordered (cell.series, cell.field) key.0) key.1);
      }
