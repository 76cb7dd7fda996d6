-- The fields of a measurement, by their samples.
use Rattle.std.proofs.Common.{◌≡◌, ◌∙◌, ap, sym, refl, subst, ⊎_elim, inl, inr, ℕ, IsTrue, List, [], ◌∷◌, Option, Some, None, IsSome, IfSome, option_and_then}
use Rattle.std.specs.BTreeMap.{BTreeMap, get, IsOrdered}
use Rattle.std.specs.Cmp.Lexicographic.{pointwise, nat_list_cmp_total}
use Rattle.std.specs.Prelude.{nat_eq}
use Rattle.std.specs.List.Sorted.{IsStrictlySortedBy}
use Rattle.std.specs.Map.{keys_of}
use Rattle.std.specs.Option.{option_map_or}
use Rattle.std.proofs.lemmas.Map.Lookups.{exact_bytes}
use Rattle.tsdb_types.specs.Names.{IsName}
use Rattle.tsdb_types.specs.Series.{measurement_text, is_series_of}
use Rattle.tsdb_types.specs.Values.{kind_of}
use Rattle.tsdb_types.specs.declared.point.Cell.{Cell}
use Rattle.tsdb_types.specs.declared.value.Value.{Value}
use Rattle.tsdb_types.specs.declared.value.Kind.{Kind}
use Rattle.point_model.specs.Cursors.{AreFields, cell_at}
use Rattle.point_model.specs.Measurements.{measurement_head}
use Rattle.point_model.specs.Points.{Points, value_at}
use Rattle.point_model.specs.Rows.{is_of}
use Rattle.point_model.proofs.FieldLemmas.{and_first, and_second, and_both, same_field, text_same, text_itself}
use Rattle.point_model.proofs.StoredLemmas.{none_some}
use Rattle.point_cache.specs.declared.key_points.KeyRun.{KeyRun}
use Rattle.store_trait.specs.Slots.{text_cmp}
use Rattle.store_trait.proofs.HeadLemmas.{of_measurement}
use Rattle.store_trait.proofs.InLemmas.{In, in_contains, contains_in, found_in, in_found, keys_in, in_keys, sorted_nil, sorted_cons, sorted_first, sorted_rest}
use Rattle.live_points.specs.Held.{kind_at, points_of}
use Rattle.live_points.specs.Known.{Holds, Keys, Samples, kind_in, sample_of}
use Rattle.live_points.specs.Listed.{kind_before, kinds_listed, kinds_of}
use Rattle.live_points.proofs.KnownLemmas.{cell_of_kind, held, sample_key, value_there}

-- a field that is listed has a series of its kind
listed_kind : (runs : List KeyRun) (entries : List (List ℕ × List ℕ)) (field : List ℕ) (kind : Kind) → In (field, kind) (kinds_listed runs entries)
    → (series : List ℕ) × In (field, series) entries × (kind_at runs (series, field) ≡ Some kind)
listed_kind runs [] field kind m = absurd m
listed_kind runs (entry ∷ entries) field kind m = by (kind_at runs (entry.1, entry.0)) refl m (λ later. listed_kind runs entries field kind later)
  where
    by : (o : Option Kind) → kind_at runs (entry.1, entry.0) ≡ o → In (field, kind) (kind_before entry.0 o (kinds_listed runs entries))
        → (In (field, kind) (kinds_listed runs entries) → (series : List ℕ) × In (field, series) entries × (kind_at runs (series, field) ≡ Some kind))
        → (series : List ℕ) × In (field, series) (entry ∷ entries) × (kind_at runs (series, field) ≡ Some kind)
    by None is n later = let r = later n in (r.0, inr r.1, r.2)
    by (Some found) is n later =
        ⊎_elim
        (λ (e : (entry.0, found) ≡ (field, kind)).
        let fields : entry.0 ≡ field = ap (λ p. p.0) e in
        let kinds : found ≡ kind = ap (λ p. p.1) e in
        (entry.1, inl (λ i. (fields i, entry.1)), ap (λ (f : List ℕ). kind_at runs (entry.1, f)) (sym fields) ∙ is ∙ ap Some kinds))
        (λ (n' : In (field, kind) (kinds_listed runs entries)). let r = later n' in (r.0, inr r.1, r.2))
        n

-- a field whose sample has points is listed
kind_listed : (runs : List KeyRun) (entries : List (List ℕ × List ℕ)) (field series : List ℕ) (kind : Kind) → In (field, series) entries → kind_at runs (series, field) ≡ Some kind
    → In (field, kind) (kinds_listed runs entries)
kind_listed runs [] field series kind m is = absurd m
kind_listed runs (entry ∷ entries) field series kind m is =
    ⊎_elim
    (λ (e : entry ≡ (field, series)).
    let here : kind_at runs (entry.1, entry.0) ≡ Some kind = ap (λ (p : List ℕ × List ℕ). kind_at runs (p.1, p.0)) e ∙ is in
    subst (λ (o : Option Kind). In (field, kind) (kind_before entry.0 o (kinds_listed runs entries))) (sym here) (inl (λ i. ((e i).0, kind))))
    (λ (later : In (field, series) entries). behind entry.0 (kind_at runs (entry.1, entry.0)) (kinds_listed runs entries) (kind_listed runs entries field series kind later is))
    m
  where
    behind : (f : List ℕ) (o : Option Kind) (kinds : List (List ℕ × Kind)) → In (field, kind) kinds → In (field, kind) (kind_before f o kinds)
    behind f None kinds n = n
    behind f (Some found) kinds n = inr n

listed_fields : (runs : List KeyRun) (entries : List (List ℕ × List ℕ)) (f : List ℕ) → In f (keys_of (kinds_listed runs entries)) → In f (keys_of entries)
listed_fields runs entries f m =
    let k = in_keys f (kinds_listed runs entries) m in
    let l = listed_kind runs entries f k.0 k.1 in
    keys_in f l.0 entries l.1

kinds_sorted : (runs : List KeyRun) (entries : List (List ℕ × List ℕ)) → IsStrictlySortedBy text_cmp (keys_of entries) → IsStrictlySortedBy text_cmp (keys_of (kinds_listed runs entries))
kinds_sorted runs [] s = sorted_nil text_cmp
kinds_sorted runs (entry ∷ entries) s = by (kind_at runs (entry.1, entry.0)) (kinds_sorted runs entries (sorted_rest text_cmp entry.0 (keys_of entries) s))
  where
    by : (o : Option Kind) → IsStrictlySortedBy text_cmp (keys_of (kinds_listed runs entries)) → IsStrictlySortedBy text_cmp (keys_of (kind_before entry.0 o (kinds_listed runs entries)))
    by None t = t
    by (Some kind) t = sorted_cons text_cmp entry.0 (keys_of (kinds_listed runs entries)) (λ y m. sorted_first text_cmp entry.0 (keys_of entries) s y (listed_fields runs entries y m)) t

module _ (runs : List KeyRun) (keys : Keys) (samples : Samples) (holds : Holds runs keys samples) (m : List ℕ) (named : IsName m) where
  abbrev head : List ℕ
  head = measurement_text m

  abbrev points : Points
  points = points_of runs

  -- a cell of the field is one whose series has the measurement at its head
  is_of_head : (f : List ℕ) (cell : Cell) → IsTrue (is_of m f cell) → (measurement_head cell.series ≡ head) × (cell.field ≡ f)
  is_of_head f cell is = (
    text_same (measurement_head cell.series) head (sym (of_measurement m cell.series named) ∙ and_first _ (pointwise nat_eq cell.field f) is),
    text_same cell.field f (and_second (is_series_of m cell.series) _ is),
  )

  head_is_of : (f : List ℕ) (cell : Cell) → measurement_head cell.series ≡ head → cell.field ≡ f → IsTrue (is_of m f cell)
  head_is_of f cell at field = and_both _ _ (of_measurement m cell.series named ∙ text_itself _ _ at) (text_itself cell.field f field)

  abbrev Has : List ℕ → Kind → Type 0
  Has field kind = (cell : Cell) × (value : Value) × (value_at points cell ≡ Some value) × IsTrue (is_of m field cell) × (kind_of value ≡ kind)

  -- a sample with points has a cell of the field
  sample_has : (field series : List ℕ) (kind : Kind) → sample_of samples head field ≡ Some series → kind_at runs (series, field) ≡ Some kind → Has field kind
  sample_has field series kind sample is =
      let placed = holds.placed head field series sample in
      let cell = cell_of_kind runs keys samples holds (series, field) kind placed.1 is in
      (cell_at (series, field) cell.0, cell.1, cell.2, head_is_of field (cell_at (series, field) cell.0) placed.0 refl, cell.3)

  -- a field that has a cell has a sample with points of its kind
  has_sample : (field : List ℕ) (kind : Kind) → Has field kind → (series : List ℕ) × (sample_of samples head field ≡ Some series) × (kind_at runs (series, field) ≡ Some kind)
  has_sample field kind has =
      let at = is_of_head field has.0 has.3 in
      let there = held runs keys samples holds has.0 has.1 has.2 in
      let some : IsSome (kind_in runs samples head field) =
      subst (λ (h : List ℕ). IsSome (kind_in runs samples h field)) at.0
      (subst (λ (f : List ℕ). IsSome (kind_in runs samples (measurement_head has.0.series) f)) at.1 (holds.sampled (has.0.series, has.0.field) there.known there.kind)) in
      let k = value_there (kind_in runs samples head field) some in
      let s = sample_key runs samples head field k.0 k.1 in
      let other = sample_has field s.0 k.0 s.1 s.2 in
      let other_at = is_of_head field other.0 other.3 in
      let kinds : k.0 ≡ kind =
      sym other.4
      ∙ holds.stored.sound.one_kind other.0 has.0 other.1 has.1 other.2 has.2 (same_field other.0 has.0 (other_at.0 ∙ sym at.0) (other_at.1 ∙ sym at.1))
      ∙ has.4 in
      (s.0, s.1, s.2 ∙ ap Some kinds)

  pub fields_are : IfSome (get text_cmp samples head) (λ fields. IsOrdered text_cmp fields) → AreFields points m (kinds_of runs samples head)
  fields_are ordered = by (get text_cmp samples head) refl ordered
    where
      by : (o : Option (BTreeMap (List ℕ) (List ℕ))) → get text_cmp samples head ≡ o → IfSome o (λ fields. IsOrdered text_cmp fields)
          → AreFields points m (option_map_or (λ (fields : BTreeMap (List ℕ) (List ℕ)). kinds_listed runs fields.entries) o [])
      by None is ordered = record {
        ascend = sorted_nil text_cmp;
        exact = λ field kind. (
          λ c. absurd (contains_in (field, kind) [] c),
          λ has.
              let s = has_sample field kind has in
              absurd (none_some s.0 (sym (ap (λ (o : Option (BTreeMap (List ℕ) (List ℕ))). option_and_then (λ fields. get text_cmp fields field) o) is) ∙ s.1)),
        );
      }
      by (Some fields) is ordered = record {
        ascend = kinds_sorted runs fields.entries ordered;
        exact = λ field kind. (
          λ c.
              let l = listed_kind runs fields.entries field kind (contains_in (field, kind) (kinds_listed runs fields.entries) c) in
              let sample : sample_of samples head field ≡ Some l.0 =
              ap (λ (o : Option (BTreeMap (List ℕ) (List ℕ))). option_and_then (λ fields. get text_cmp fields field) o) is ∙ in_found nat_list_cmp_total exact_bytes fields ordered field l.0 l.1 in
              sample_has field l.0 kind sample l.2,
          λ has.
              let s = has_sample field kind has in
              let found : get text_cmp fields field ≡ Some s.0 = sym (ap (λ (o : Option (BTreeMap (List ℕ) (List ℕ))). option_and_then (λ fields. get text_cmp fields field) o) is) ∙ s.1 in
              in_contains (field, kind) (kinds_listed runs fields.entries) (kind_listed runs fields.entries field s.0 kind (found_in nat_list_cmp_total exact_bytes fields ordered field s.0 found) s.2),
        );
      }
