-- What holds beside a cache once a removal is carried out.
use Rattle.std.proofs.Common.{◌≡◌, ◌≢◌, ◌∙◌, ap, sym, refl, subst, ⊎_elim, ◌&&◌, ◌||◌, ℕ, zero, suc, ℤ, Bool, true, false, cond, List, [], ◌∷◌, Option, Some, None, IsSome, is_some, option_and_then, slice_get, nat_eq}
use Rattle.std.specs.BTreeMap.{BTreeMap, get, is_at}
use Rattle.std.specs.Cmp.Lexicographic.{pointwise}
use Rattle.std.specs.List.{AllByRecursion}
use Rattle.std.proofs.lemmas.Bool.{cases_Bool, cond-true, cond-false, false≢true}
use Rattle.std.proofs.lemmas.Map.Lookups.{exact_bytes}
use Rattle.std.proofs.lemmas.Map.Views.{tells_apart}
use Rattle.std.specs.Cmp.{eq_by_cmp_equiv}
use Rattle.std.specs.Cmp.Lexicographic.{nat_list_cmp_total}
use Rattle.tsdb_types.specs.Series.{is_series_of, measurement_text}
use Rattle.tsdb_types.specs.declared.value.Value.{Value}
use Rattle.point_model.specs.declared.deletion.Deletion.{Deletion}
use Rattle.point_model.specs.Acceptance.{IsStored}
use Rattle.point_model.specs.Conditions.{meets}
use Rattle.point_model.specs.Cursors.{Key, cell_at}
use Rattle.point_model.specs.Deletions.{is_deleted, without}
use Rattle.point_model.specs.Measurements.{measurement_head}
use Rattle.point_model.specs.Points as model
use Rattle.point_model.specs.Points.{Points}
use Rattle.point_model.proofs.EffectLemmas.{value_without}
use Rattle.point_model.proofs.FieldLemmas.{and_first, and_both, text_same}
use Rattle.point_model.proofs.PointLemmas.{same_points, sorted-without}
use Rattle.point_model.proofs.StoredLemmas.{from_before, none_some, stored-without}
use Rattle.point_cache.specs.declared.key_points.KeyRun.{KeyRun}
use Rattle.point_cache.specs.Calls as calls
use Rattle.point_cache.specs.Cached.{AreRuns, is_within, value_at}
use Rattle.point_cache.proofs.EntryLemmas.{same_key, key_same}
use Rattle.store_trait.specs.Slots.{text_cmp}
use Rattle.store_trait.proofs.HeadLemmas.{of_measurement}
use Rattle.live_points.specs.Held.{composite, cut, kind_at, points_of}
use Rattle.live_points.specs.Known.{Holds, IsKnown, Keys, Samples, kind_in, sample_of}
use Rattle.live_points.specs.Removed.{ForgetsKeys, IsMetKey, IsOneOf, IsRemovalOf, IsSpared, is_met, value_spared}
use Rattle.live_points.specs.declared.removal.Removal.{Removal}
use Rattle.live_points.proofs.CutLemmas.{cut_composite}
use Rattle.live_points.proofs.HeldLemmas.{IsCut, held_value, none_elsewhere, sorted_points}
use Rattle.live_points.proofs.KnownLemmas.{cuts, held, some_kind_value, value_kind, value_there}
use Rattle.live_points.proofs.SetLemmas.{all_cut, decided}

-- ---- keys that lose points

-- the bytes are those of one of the keys
abbrev pub are_among : List Key → List ℕ → Bool
are_among [] bytes = false
are_among (key ∷ keys) bytes = pointwise nat_eq bytes (composite key) || are_among keys bytes

pub spared_value : (keys : List Key) (from to : ℤ) (bytes : List ℕ) (time : ℤ) (was : Option Value)
    → value_spared keys from to bytes time was ≡ cond (are_among keys bytes && is_within from to time) None was
spared_value [] from to bytes time was = refl
spared_value (key ∷ keys) from to bytes time was =
    spared_value keys from to bytes time (calls.value_without (composite key) from to bytes time was)
    ∙ by (pointwise nat_eq bytes (composite key)) (are_among keys bytes) (is_within from to time)
  where
    by : (here later inside : Bool) → cond (later && inside) None (cond (here && inside) None was) ≡ cond ((here || later) && inside) None was
    by true true true = refl
    by true true false = refl
    by true false true = refl
    by true false false = refl
    by false true true = refl
    by false true false = refl
    by false false true = refl
    by false false false = refl

pub one_among : (keys : List Key) (key : Key) → IsOneOf keys key → are_among keys (composite key) ≡ true
one_among [] key there = absurd (none_some key there.1)
one_among (first ∷ keys) key there = by there.0 there.1 (λ place at. one_among keys key (place, at))
  where
    first_here : (b c : Bool) → b ≡ true → (b || c) ≡ true
    first_here true c e = refl
    first_here false c e = absurd (false≢true e)

    later_here : (b c : Bool) → c ≡ true → (b || c) ≡ true
    later_here true c e = refl
    later_here false c e = e

    some_same : (a b : Key) → Some a ≡ Some b → a ≡ b
    some_same a b e = cc

    by : (place : ℕ) → slice_get (first ∷ keys) place ≡ Some key → ((p : ℕ) → slice_get keys p ≡ Some key → are_among keys (composite key) ≡ true)
        → are_among (first ∷ keys) (composite key) ≡ true
    by zero at later = first_here _ (are_among keys (composite key)) (key_same (composite key) (composite first) (ap composite (sym (some_same first key at))))
    by (suc place) at later = later_here (pointwise nat_eq (composite key) (composite first)) _ (later place at)

pub among_one : (P : Key → Type 0) (keys : List Key) (bytes : List ℕ) → AllByRecursion P keys → are_among keys bytes ≡ true → (key : Key) × P key × (bytes ≡ composite key)
among_one P [] bytes all e = absurd (false≢true e)
among_one P (first ∷ keys) bytes all e = by (pointwise nat_eq bytes (composite first)) refl e (λ f. among_one P keys bytes all.1 f)
  where
    by : (b : Bool) → pointwise nat_eq bytes (composite first) ≡ b → (b || are_among keys bytes) ≡ true
        → (are_among keys bytes ≡ true → (key : Key) × P key × (bytes ≡ composite key)) → (key : Key) × P key × (bytes ≡ composite key)
    by true is f later = (first, all.0, same_key bytes (composite first) is)
    by false is f later = later f

pub all_places : (P : Key → Type 0) (keys : List Key) → AllByRecursion P keys → (key : Key) → IsOneOf keys key → P key
all_places P [] all key there = absurd (none_some key there.1)
all_places P (first ∷ keys) all key there = by there.0 there.1 (λ place at. all_places P keys all.1 key (place, at))
  where
    some_same : (a b : Key) → Some a ≡ Some b → a ≡ b
    some_same a b e = cc

    by : (place : ℕ) → slice_get (first ∷ keys) place ≡ Some key → ((p : ℕ) → slice_get keys p ≡ Some key → P key) → P key
    by zero at later = subst P (some_same first key at) all.0
    by (suc place) at later = later place at

none_always : (b : Bool) (was : Option Value) → was ≡ None → cond b None was ≡ None
none_always true was is = refl
none_always false was is = is

some_was : (b : Bool) (was : Option Value) → IsSome (cond b None was) → IsSome was
some_was true was some = absurd (false≢true some)
some_was false was some = some

-- ---- the removal is carried out

module _ (old new : List KeyRun) (keys more : Keys) (samples taken : Samples) (deletion : Deletion) (removal : Removal) (holds : Holds old keys samples)
    (removes : IsRemovalOf deletion (points_of old) removal) (are_runs : AreRuns new)
    (values : (bytes : List ℕ) (time : ℤ) → value_at new bytes time ≡ value_spared removal.keys.items deletion.from deletion.to bytes time (value_at old bytes time))
    (forgets : ForgetsKeys new removal.keys.items keys more)
    (sampled : (m f : List ℕ) → sample_of taken m f
    ≡ cond (is_at (text_cmp removal.heading) m && is_some (get text_cmp samples removal.heading)) (get text_cmp removal.samples f) (sample_of samples m f)) where
  abbrev gone : List ℕ → ℤ → Bool
  gone bytes time = are_among removal.keys.items bytes && is_within deletion.from deletion.to time

  value_is : (bytes : List ℕ) (time : ℤ) → value_at new bytes time ≡ cond (gone bytes time) None (value_at old bytes time)
  value_is bytes time = values bytes time ∙ spared_value removal.keys.items deletion.from deletion.to bytes time (value_at old bytes time)

  was_there : (bytes : List ℕ) (time : ℤ) → IsSome (value_at new bytes time) → IsSome (value_at old bytes time)
  was_there bytes time some = some_was (gone bytes time) (value_at old bytes time) (subst (λ (o : Option Value). IsSome o) (value_is bytes time) some)

  -- the bytes of a key that is cut where it was joined are among those of the removal only where the deletion meets it
  among_met : (key : Key) → cut (composite key) ≡ key → are_among removal.keys.items (composite key) ≡ true → is_met deletion key ≡ true
  among_met key own e =
      let one = among_one (IsMetKey deletion) removal.keys.items (composite key) removes.met e in
      let same : key ≡ one.0 = sym own ∙ ap cut one.2 ∙ cut_composite one.0 one.1.marked in
      ap (is_met deletion) same ∙ one.1.met

  new_cuts : AllByRecursion IsCut new
  new_cuts = all_cut new are_runs.each (λ bytes time some. (holds.known bytes time (was_there bytes time some)).1)

  old_cuts : AllByRecursion IsCut old
  old_cuts = cuts old keys samples holds

  same_test : (key : Key) (time : ℤ) → cut (composite key) ≡ key → (was : Option Value) → model.value_at (points_of old) (cell_at key time) ≡ was
      → cond (gone (composite key) time) None was ≡ cond (is_deleted deletion (cell_at key time)) None was
  same_test key time own None is = none_always (gone (composite key) time) None refl ∙ sym (none_always (is_deleted deletion (cell_at key time)) None refl)
  same_test key time own (Some value) is =
      ap (λ (b : Bool). cond (b && is_within deletion.from deletion.to time) None (Some value)) (by (is_met deletion key) refl)
    where
      by : (b : Bool) → is_met deletion key ≡ b → are_among removal.keys.items (composite key) ≡ is_met deletion key
      by true e = one_among removal.keys.items key (removes.all (cell_at key time) (ap is_some is) e) ∙ sym e
      by false e =
          ⊎_elim
          (λ (f : are_among removal.keys.items (composite key) ≡ true). absurd (false≢true (sym e ∙ among_met key own f)))
          (λ (f : are_among removal.keys.items (composite key) ≡ false). f ∙ sym e)
          (cases_Bool (are_among removal.keys.items (composite key)))

  -- the points are those that the deletion leaves
  pub points_are : points_of new ≡ without (points_of old) deletion
  points_are =
      same_points (points_of new) (without (points_of old) deletion) (sorted_points new) (sorted-without (points_of old) deletion (sorted_points old))
      (λ cell.
      ⊎_elim
      (λ (own : cut (composite (cell.series, cell.field)) ≡ (cell.series, cell.field)).
      let key : Key = (cell.series, cell.field) in
      let before = held_value old old_cuts holds.are_runs.apart key own cell.time in
      held_value new new_cuts are_runs.apart key own cell.time
      ∙ value_is (composite key) cell.time
      ∙ ap (λ (o : Option Value). cond (gone (composite key) cell.time) None o) (sym before)
      ∙ same_test key cell.time own (model.value_at (points_of old) cell) refl
      ∙ sym (value_without (points_of old) deletion cell))
      (λ (elsewhere : cut (composite (cell.series, cell.field)) ≢ (cell.series, cell.field)).
      none_elsewhere new new_cuts cell elsewhere
      ∙ sym (value_without (points_of old) deletion cell
      ∙ ap (λ (o : Option Value). cond (is_deleted deletion cell) None o) (none_elsewhere old old_cuts cell elsewhere)
      ∙ none_always (is_deleted deletion cell) None refl))
      (decided cell))

  -- a key with a value is known
  still_known : (bytes : List ℕ) (time : ℤ) → IsSome (value_at new bytes time) → IsKnown more (cut bytes) × (composite (cut bytes) ≡ bytes)
  still_known bytes time some =
      let before = holds.known bytes time (was_there bytes time some) in (
        ⊎_elim
            (λ known. known)
            (λ (gone : IsOneOf removal.keys.items (cut bytes) × ((time : ℤ) → value_at new (composite (cut bytes)) time ≡ None)).
            absurd (false≢true (sym (ap is_some (ap (λ (b : List ℕ). value_at new b time) (sym before.1) ∙ gone.1 time)) ∙ some)))
            (forgets.kept (cut bytes) before.0),
        before.1,
      )

  -- of a series that the deletion meets the measurement is the removal's
  met_head : (key : Key) → is_met deletion key ≡ true → measurement_head key.0 ≡ removal.heading
  met_head key met =
      text_same (measurement_head key.0) (measurement_text deletion.measurement)
      (sym (of_measurement deletion.measurement key.0 removes.named) ∙ and_first (is_series_of deletion.measurement key.0) (meets deletion.tags key.0) met)
      ∙ sym removes.heading

  -- a spared cell has a value in the runs, under its own key
  spared_runs : (series field : List ℕ) (time : ℤ) → IsSpared (points_of old) deletion (cell_at (series, field) time)
      → (cut (composite (series, field)) ≡ (series, field)) × IsSome (value_at new (composite (series, field)) time)
  spared_runs series field time spared =
      let cell = cell_at (series, field) time in
      let value = value_there (model.value_at (without (points_of old) deletion) cell) spared in
      let there = held old keys samples holds cell value.0 (from_before (points_of old) deletion cell value.0 value.1) in
      (there.own, subst (λ (o : Option Value). IsSome o) (ap (λ (p : Points). model.value_at p cell) (sym points_are) ∙ held_value new new_cuts are_runs.apart (series, field) there.own time) spared)

  abbrev is_replaced : List ℕ → Bool
  is_replaced m = is_at (text_cmp removal.heading) m && is_some (get text_cmp samples removal.heading)

  replaced_head : (m : List ℕ) → is_replaced m ≡ true → removal.heading ≡ m
  replaced_head m e = tells_apart exact_bytes removal.heading m (and_first _ _ e)

  -- where a measurement with samples keeps them it isn't the removal's
  kept_head : (m f series : List ℕ) → is_replaced m ≡ false → sample_of samples m f ≡ Some series → m ≢ removal.heading
  kept_head m f series e is same =
      let there : is_some (get text_cmp samples removal.heading) ≡ true =
      has (get text_cmp samples removal.heading) (ap (λ (h : List ℕ). sample_of samples h f) (sym same) ∙ is) in
      let itself : is_at (text_cmp removal.heading) m ≡ true =
      (let laws = eq_by_cmp_equiv nat_list_cmp_total in ap (is_at (text_cmp removal.heading)) same ∙ laws.refl removal.heading) in
      false≢true (sym e ∙ and_both _ _ itself there)
    where
      has : (o : Option (BTreeMap (List ℕ) (List ℕ))) → option_and_then (λ (fields : BTreeMap (List ℕ) (List ℕ)). get text_cmp fields f) o ≡ Some series → is_some o ≡ true
      has None is = absurd (none_some series is)
      has (Some fields) is = refl

  -- a key of another measurement keeps its values
  other_value : (key : Key) (time : ℤ) → cut (composite key) ≡ key → measurement_head key.0 ≢ removal.heading → value_at new (composite key) time ≡ value_at old (composite key) time
  other_value key time own apart =
      value_is (composite key) time
      ∙ ap (λ (b : Bool). cond (b && is_within deletion.from deletion.to time) None (value_at old (composite key) time))
      (⊎_elim
      (λ (f : are_among removal.keys.items (composite key) ≡ true). absurd (apart (met_head key (among_met key own f))))
      (λ (f : are_among removal.keys.items (composite key) ≡ false). f)
      (cases_Bool (are_among removal.keys.items (composite key))))

  new_placed : (measurement field series : List ℕ) → sample_of taken measurement field ≡ Some series → (measurement_head series ≡ measurement) × IsKnown more (series, field)
  new_placed measurement field series is =
      ⊎_elim
      (λ (e : is_replaced measurement ≡ true).
      let left : get text_cmp removal.samples field ≡ Some series =
      sym (cond-true (is_replaced measurement) (get text_cmp removal.samples field) (sample_of samples measurement field) e) ∙ sym (sampled measurement field) ∙ is in
      let placed = removes.placed field series left in
      let runs = spared_runs series field placed.1 placed.2 in (
        placed.0 ∙ replaced_head measurement e,
        subst (λ (k : Key). IsKnown more k) runs.0 (still_known (composite (series, field)) placed.1 runs.1).0,
      ))
      (λ (e : is_replaced measurement ≡ false).
      let before : sample_of samples measurement field ≡ Some series =
      sym (cond-false (is_replaced measurement) (get text_cmp removal.samples field) (sample_of samples measurement field) e) ∙ sym (sampled measurement field) ∙ is in
      let placed = holds.placed measurement field series before in (
        placed.0,
        ⊎_elim
            (λ known. known)
            (λ (gone : IsOneOf removal.keys.items (series, field) × ((time : ℤ) → value_at new (composite (series, field)) time ≡ None)).
            let met : IsMetKey deletion (series, field) = all_places (IsMetKey deletion) removal.keys.items removes.met (series, field) gone.0 in
            absurd (kept_head measurement field series e before (sym placed.0 ∙ met_head (series, field) met.met)))
            (forgets.kept (series, field) placed.1),
      ))
      (cases_Bool (is_replaced measurement))

  sample_some : (m f series : List ℕ) → sample_of taken m f ≡ Some series → IsSome (kind_at new (series, f)) → IsSome (kind_in new taken m f)
  sample_some m f series is some = subst (λ (o : Option (List ℕ)). IsSome (option_and_then (λ (s : List ℕ). kind_at new (s, f)) o)) (sym is) some

  sample_was : (m f : List ℕ) → IsSome (kind_in old samples m f) → (series : List ℕ) × (sample_of samples m f ≡ Some series) × IsSome (kind_at old (series, f))
  sample_was m f some = by (sample_of samples m f) refl some
    where
      by : (o : Option (List ℕ)) → sample_of samples m f ≡ o → IsSome (option_and_then (λ (s : List ℕ). kind_at old (s, f)) o)
          → (series : List ℕ) × (sample_of samples m f ≡ Some series) × IsSome (kind_at old (series, f))
      by None is i = absurd (false≢true i)
      by (Some series) is i = (series, is, i)

  new_sampled : (key : Key) → IsKnown more key → IsSome (kind_at new key) → IsSome (kind_in new taken (measurement_head key.0) key.1)
  new_sampled key known some =
      let m = measurement_head key.0 in
      let own : cut (composite key) ≡ key = cut_composite key (holds.marked key (forgets.only key known)) in
      let value = some_kind_value new key some in
      let had = sample_was m key.1 (holds.sampled key (forgets.only key known) (value_kind old key value.0 (was_there (composite key) value.0 value.1))) in
      ⊎_elim
      (λ (e : is_replaced m ≡ true).
      let cell = cell_at key value.0 in
      let spared : IsSpared (points_of old) deletion cell =
      subst (λ (o : Option Value). IsSome o) (sym (ap (λ (p : Points). model.value_at p cell) (sym points_are) ∙ held_value new new_cuts are_runs.apart key own value.0)) value.1 in
      let left = value_there (get text_cmp removal.samples key.1) (removes.sampled cell spared (sym (replaced_head m e))) in
      let placed = removes.placed key.1 left.0 left.1 in
      let runs = spared_runs left.0 key.1 placed.1 placed.2 in
      sample_some m key.1 left.0
      (sampled m key.1 ∙ cond-true (is_replaced m) (get text_cmp removal.samples key.1) (sample_of samples m key.1) e ∙ left.1)
      (value_kind new (left.0, key.1) placed.1 runs.1))
      (λ (e : is_replaced m ≡ false).
      let placed = holds.placed m key.1 had.0 had.1 in
      let other : Key = (had.0, key.1) in
      let before = some_kind_value old other had.2 in
      let apart : measurement_head had.0 ≢ removal.heading = λ same. kept_head m key.1 had.0 e had.1 (sym placed.0 ∙ same) in
      sample_some m key.1 had.0
      (sampled m key.1 ∙ cond-false (is_replaced m) (get text_cmp removal.samples key.1) (sample_of samples m key.1) e ∙ had.1)
      (value_kind new other before.0
      (subst (λ (o : Option Value). IsSome o) (sym (other_value other before.0 (cut_composite other (holds.marked other placed.1)) apart)) before.1)))
      (cases_Bool (is_replaced m))

  pub removed : Holds new more taken
  removed = record {
    are_runs = are_runs;
    stored = subst IsStored (sym points_are) (stored-without (points_of old) holds.stored deletion);
    known = still_known;
    marked = λ key known. holds.marked key (forgets.only key known);
    placed = new_placed;
    sampled = new_sampled;
  }
