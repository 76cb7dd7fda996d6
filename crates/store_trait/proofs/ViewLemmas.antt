-- A list view gives what the need asks of the points.
use Rattle.std.proofs.Common.{◌≡◌, ◌∙◌, ap, sym, refl, subst, ⊎_elim, inl, inr, ◌&&◌, ◌<◌, true, T, ℕ, zero, suc, ◌↔◌, List, [], ◌∷◌, ◌++◌, length, get_or, map, All, Contains, Some, is_some, slice_get, arith, Ordering, Less}
use Rattle.std.specs.FinMap.Entries.{is_sorted, below_all}
use Rattle.std.specs.List.Sorted.{IsStrictlySortedBy}
use Rattle.std.specs.Map.{keys_of}
use Rattle.std.specs.Ordering.{is_lt}
use Rattle.std.proofs.lemmas.Option.{slice_get-get_or, slice_get_within, get_or_from_slice_get}
use Rattle.tsdb_types.specs.Moments.{IsMoment}
use Rattle.tsdb_types.specs.Names.{IsName}
use Rattle.tsdb_types.specs.Series.{measurement_text, series_text, is_series_of, ReadsOnce}
use Rattle.tsdb_types.specs.declared.point.Cell.{Cell}
use Rattle.tsdb_types.specs.declared.tag.Tag.{Tag}
use Rattle.tsdb_types.specs.declared.value.Value.{Value}
use Rattle.tsdb_types.specs.declared.value.Kind.{Kind}
use Rattle.point_model.specs.declared.names.Names.{Names}
use Rattle.point_model.specs.declared.need.Need.{Need}
use Rattle.point_model.specs.Acceptance.{IsSound}
use Rattle.point_model.specs.Conditions.{Condition, meets}
use Rattle.point_model.specs.Cursors.{Key, Shown, Gives, AreFields, AreTagKeys, AreKeys, cell_at, rows_needed}
use Rattle.point_model.specs.Measurements.{measurement_head}
use Rattle.point_model.specs.Points.{Points, cell_cmp}
use Rattle.point_model.specs.Rows.{Row}
use Rattle.store_trait.specs.Plain.{Fits}
use Rattle.store_trait.specs.Slots.{Slots, Samples, text_cmp}
use Rattle.store_trait.specs.Tags.{IsTagKeyOf}
use Rattle.store_trait.proofs.ConflictLemmas.{Among, among_found}
use Rattle.store_trait.proofs.HeadLemmas.{head_of_series, of_measurement}
use Rattle.store_trait.proofs.InLemmas.{In, sorted_nil, sorted_cons}
use Rattle.store_trait.proofs.KindLemmas.{and_first, and_both, text_same, text_itself}
use Rattle.store_trait.proofs.RowLemmas.{t_first, t_second, less_t}

-- ---- what holds of the points

below_each : {K X : Type 0} (R : K → K → Ordering) (x : K) (es : List (K × X)) → T (below_all R x es) → (y : K) → In y (keys_of es) → R x y ≡ Less
below_each R x [] b y m = absurd m
below_each {K} {X} R x (e ∷ es) b y m =
    ⊎_elim
    (λ (same : e.0 ≡ y). subst (λ (z : K). R x z ≡ Less) same (less_t (R x e.0) (t_first (is_lt (R x e.0)) _ b)))
    (λ (later : In y (keys_of es)). below_each R x es (t_second (is_lt (R x e.0)) _ b) y later)
    m

test_sorted : {K X : Type 0} (R : K → K → Ordering) (es : List (K × X)) → T (is_sorted R es) → IsStrictlySortedBy R (keys_of es)
test_sorted R [] s = sorted_nil R
test_sorted R (e ∷ es) s = sorted_cons R e.0 (keys_of es) (below_each R e.0 es (t_first (below_all R e.0 es) _ s)) (test_sorted R es (t_second (below_all R e.0 es) _ s))

at_among : (points : Points) (k : ℕ) (d : Cell × Value) → k < length points → Among (get_or points k d) points
at_among [] k d l = absurd (omega (arith, l))
at_among (e ∷ points) zero d l = inl refl
at_among (e ∷ points) (suc k) d l = inr (at_among points k d (omega (arith, l)))

module _ (slots : Slots) (samples : Samples) (points : Points) (fits : Fits slots samples points) (sorted : T (is_sorted cell_cmp points)) where
  pub sound : IsSound points
  sound = record { ordered = test_sorted cell_cmp points sorted; one_kind = fits.one_kind }

  pub timed : All (λ (point : Cell × Value). IsMoment point.0.time) points
  timed = λ k d l.
      let e = get_or points k d in
      fits.timed e.0 (ap is_some (among_found e points sorted (at_among points k d l)))

-- ---- the tag keys

-- each series meets it
abbrev pub IsAlwaysMet : Condition → Type 0
IsAlwaysMet tags = (series : List ℕ) → meets tags series ≡ true

-- a measurement has one text
one_measurement : ReadsOnce → (m n : List ℕ) → IsName m → IsName n → measurement_text m ≡ measurement_text n → m ≡ n
one_measurement once m n a b e =
    let none : All (λ (tag : Tag). IsName tag.key × IsName tag.value) [] = λ k d l. absurd (omega (arith, l)) in
    (once m [] n [] a none b none (ap (λ (t : List ℕ). t ++ []) e)).0

abbrev pub TagKeysAre : List Key → List (List ℕ) → Type 0
TagKeysAre keys found =
    (key : List ℕ) → Contains found key ↔ ((place : ℕ) × (series field : List ℕ) × (slice_get keys place ≡ Some (series, field)) × IsTagKeyOf key series)

pub tag_keys_are : ReadsOnce → (points : Points) (need : Need) (keys : List Key) (found : List (List ℕ)) → IsName need.measurement → IsAlwaysMet need.tags → AreKeys points need keys
    → IsStrictlySortedBy text_cmp found → TagKeysAre keys found → AreTagKeys points need.measurement found
tag_keys_are once points need keys found named met are ascend exact = record {
  ascend = ascend;
  exact = λ key. (
    λ c.
        let r = (exact key).0 c in
        let at : Contains keys (r.1, r.2) = (r.0, slice_get_within keys r.0 (r.1, r.2) r.3, get_or_from_slice_get keys r.0 (r.1, r.2) (r.1, r.2) r.3) in
        let has = (are.exact (r.1, r.2)).0 at in
        let tags = r.4 in
        let heads : measurement_text tags.measurement ≡ measurement_text need.measurement =
        sym (head_of_series tags.measurement tags.tags tags.named) ∙ ap measurement_head (sym tags.spelled)
        ∙ text_same (measurement_head r.1) (measurement_text need.measurement) (sym (of_measurement need.measurement r.1 named) ∙ and_first _ (meets need.tags r.1) has.2) in
        let same = one_measurement once tags.measurement need.measurement tags.named named heads in
        (cell_at (r.1, r.2) has.0, has.1, (tags.tags, tags.tags_named, tags.spelled ∙ ap (λ (m : List ℕ). series_text m tags.tags) same, tags.has)),
    λ has.
        let cell = has.0 in
        let tags = has.2 in
        let head : measurement_head cell.series ≡ measurement_text need.measurement = ap measurement_head tags.2 ∙ head_of_series need.measurement tags.0 named in
        let of : (is_series_of need.measurement cell.series && meets need.tags cell.series) ≡ true =
        and_both _ _ (of_measurement need.measurement cell.series named ∙ text_itself _ _ head) (met cell.series) in
        let at = (are.exact (cell.series, cell.field)).1 (cell.time, has.1, of) in
        (exact key).1 (
          at.0,
          cell.series,
          cell.field,
          slice_get-get_or keys at.0 (cell.series, cell.field) at.1 ∙ ap Some at.2,
          (record { measurement = need.measurement; tags = tags.0; named = named; tags_named = tags.1; spelled = tags.2; has = tags.3 }),
        ),
  );
}

-- ---- the view

pub gives_of : (points : Points) (need : Need) (shown : Shown) (fields : List (List ℕ × Kind)) (tag_keys : List (List ℕ)) (keys : List Key) (rows : List (List Row))
    → (let names : Names = record { fields = fields; tag_keys = tag_keys } in shown.names ≡ names) → shown.keys ≡ keys → shown.left ≡ Some rows
    → AreFields points need.measurement fields → AreTagKeys points need.measurement tag_keys → AreKeys points need keys → rows ≡ map (rows_needed need points) keys
    → Gives points need shown
gives_of points need shown fields tag_keys keys rows names_are keys_are left fields_are tags_are are rows_are = record {
  fields = subst (λ (n : Names). AreFields points need.measurement n.fields) (sym names_are) fields_are;
  tag_keys = subst (λ (n : Names). AreTagKeys points need.measurement n.tag_keys) (sym names_are) tags_are;
  keys = subst (λ (ks : List Key). AreKeys points need ks) (sym keys_are) are;
  rows = left ∙ ap Some rows_are ∙ ap (λ (ks : List Key). Some (map (rows_needed need points) ks)) (sym keys_are);
}
