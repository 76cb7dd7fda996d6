-- The fields of a measurement, by their samples.
use Rattle.std.proofs.Common.{◌≡◌, ◌∙◌, ap, sym, refl, subst, ⊎_elim, inl, inr, ℕ, IsTrue, List, [], ◌∷◌, Contains, Option, Some, None, IsSome, is_some, IfSome, option_and_then}
use Rattle.std.specs.BTreeMap.{BTreeMap, get, IsOrdered}
use Rattle.std.specs.Cmp.Lexicographic.{pointwise, nat_list_cmp_total}
use Rattle.std.specs.Prelude.{nat_eq}
use Rattle.std.specs.List.Sorted.{IsStrictlySortedBy}
use Rattle.std.specs.Map.{keys_of}
use Rattle.std.specs.Option.{option_map_or}
use Rattle.std.proofs.lemmas.Bool.{false≢true}
use Rattle.std.proofs.lemmas.Map.Lookups.{exact_bytes}
use Rattle.tsdb_types.specs.Names.{IsName}
use Rattle.tsdb_types.specs.Series.{measurement_text, is_series_of}
use Rattle.tsdb_types.specs.Values.{kind_of}
use Rattle.tsdb_types.specs.declared.point.Cell.{Cell}
use Rattle.tsdb_types.specs.declared.value.Value.{Value}
use Rattle.tsdb_types.specs.declared.value.Kind.{Kind}
use Rattle.point_model.specs.Cursors.{AreFields}
use Rattle.point_model.specs.Measurements.{measurement_head}
use Rattle.point_model.specs.Points.{Points, value_at}
use Rattle.point_model.specs.Rows.{is_of}
use Rattle.store_trait.specs.Gathered.{kind_before, kinds_listed, kinds_of}
use Rattle.store_trait.specs.Plain.{Fits, sample_value}
use Rattle.store_trait.specs.Slots.{Slots, Samples, slot_at, sample_of, held, text_cmp}
use Rattle.store_trait.proofs.ConflictLemmas.{none_some, sample_cell}
use Rattle.store_trait.proofs.HeadLemmas.{of_measurement}
use Rattle.store_trait.proofs.InLemmas.{In, in_contains, contains_in, found_in, in_found, keys_in, in_keys, sorted_nil, sorted_cons, sorted_first, sorted_rest}
use Rattle.store_trait.proofs.KindLemmas.{and_first, and_second, and_both, text_same, text_itself, same_field}

-- a field that is listed has a sample with a value of its kind
listed_kind : (slots : Slots) (entries : List (List ℕ × Cell)) (field : List ℕ) (kind : Kind) → In (field, kind) (kinds_listed slots entries)
    → (cell : Cell) × (value : Value) × In (field, cell) entries × (held (slot_at slots cell) ≡ Some value) × (kind_of value ≡ kind)
listed_kind slots [] field kind m = absurd m
listed_kind slots (entry ∷ entries) field kind m = by (held (slot_at slots entry.1)) refl m (λ later. listed_kind slots entries field kind later)
  where
    by : (o : Option Value) → held (slot_at slots entry.1) ≡ o → In (field, kind) (kind_before entry.0 o (kinds_listed slots entries))
        → (In (field, kind) (kinds_listed slots entries) → (cell : Cell) × (value : Value) × In (field, cell) entries × (held (slot_at slots cell) ≡ Some value) × (kind_of value ≡ kind))
        → (cell : Cell) × (value : Value) × In (field, cell) (entry ∷ entries) × (held (slot_at slots cell) ≡ Some value) × (kind_of value ≡ kind)
    by None is n later = let r = later n in (r.0, r.1, inr r.2, r.3, r.4)
    by (Some value) is n later =
        ⊎_elim
        (λ (e : (entry.0, kind_of value) ≡ (field, kind)). (entry.1, value, inl (λ i. ((e i).0, entry.1)), is, ap (λ p. p.1) e))
        (λ (m' : In (field, kind) (kinds_listed slots entries)). let r = later m' in (r.0, r.1, inr r.2, r.3, r.4))
        n

-- a field whose sample has a value is listed
kind_listed : (slots : Slots) (entries : List (List ℕ × Cell)) (field : List ℕ) (cell : Cell) (value : Value) → In (field, cell) entries → held (slot_at slots cell) ≡ Some value
    → In (field, kind_of value) (kinds_listed slots entries)
kind_listed slots [] field cell value m is = absurd m
kind_listed slots (entry ∷ entries) field cell value m is =
    ⊎_elim
    (λ (e : entry ≡ (field, cell)).
    let here : held (slot_at slots entry.1) ≡ Some value = ap (λ (p : List ℕ × Cell). held (slot_at slots p.1)) e ∙ is in
    subst (λ (o : Option Value). In (field, kind_of value) (kind_before entry.0 o (kinds_listed slots entries))) (sym here) (inl (λ i. ((e i).0, kind_of value))))
    (λ (later : In (field, cell) entries). behind entry.0 (held (slot_at slots entry.1)) (kinds_listed slots entries) (kind_listed slots entries field cell value later is))
    m
  where
    behind : (f : List ℕ) (o : Option Value) (kinds : List (List ℕ × Kind)) → In (field, kind_of value) kinds → In (field, kind_of value) (kind_before f o kinds)
    behind f None kinds n = n
    behind f (Some v) kinds n = inr n

listed_keys : (slots : Slots) (entries : List (List ℕ × Cell)) (f : List ℕ) → In f (keys_of (kinds_listed slots entries)) → In f (keys_of entries)
listed_keys slots entries f m =
    let k = in_keys f (kinds_listed slots entries) m in
    let l = listed_kind slots entries f k.0 k.1 in
    keys_in f l.0 entries l.2

kinds_sorted : (slots : Slots) (entries : List (List ℕ × Cell)) → IsStrictlySortedBy text_cmp (keys_of entries) → IsStrictlySortedBy text_cmp (keys_of (kinds_listed slots entries))
kinds_sorted slots [] s = sorted_nil text_cmp
kinds_sorted slots (entry ∷ entries) s = by (held (slot_at slots entry.1)) (kinds_sorted slots entries (sorted_rest text_cmp entry.0 (keys_of entries) s))
  where
    by : (o : Option Value) → IsStrictlySortedBy text_cmp (keys_of (kinds_listed slots entries)) → IsStrictlySortedBy text_cmp (keys_of (kind_before entry.0 o (kinds_listed slots entries)))
    by None t = t
    by (Some value) t = sorted_cons text_cmp entry.0 (keys_of (kinds_listed slots entries)) (λ y m. sorted_first text_cmp entry.0 (keys_of entries) s y (listed_keys slots entries y m)) t

module _ (slots : Slots) (samples : Samples) (points : Points) (fits : Fits slots samples points) (m : List ℕ) (named : IsName m) where
  abbrev head : List ℕ
  head = measurement_text m

  -- a cell of the field is one whose series has the measurement at its head
  is_of_head : (f : List ℕ) (cell : Cell) → IsTrue (is_of m f cell) → (measurement_head cell.series ≡ head) × (cell.field ≡ f)
  is_of_head f cell is = (
    text_same (measurement_head cell.series) head (sym (of_measurement m cell.series named) ∙ and_first _ (pointwise nat_eq cell.field f) is),
    text_same cell.field f (and_second (is_series_of m cell.series) _ is),
  )

  head_is_of : (f : List ℕ) (cell : Cell) → measurement_head cell.series ≡ head → cell.field ≡ f → IsTrue (is_of m f cell)
  head_is_of f cell at field = and_both _ _ (of_measurement m cell.series named ∙ text_itself _ _ at) (text_itself cell.field f field)

  abbrev Has : List ℕ → Kind → Type 0
  Has field kind = (cell : Cell) × (value : Value) × (value_at points cell ≡ Some value) × IsTrue (is_of m field cell) × (kind_of value ≡ kind)

  -- a field that has a cell has a sample with a value of its kind
  has_sample : (field : List ℕ) (kind : Kind) → Has field kind → (w : Cell) × (v : Value) × (sample_of samples head field ≡ Some w) × (held (slot_at slots w) ≡ Some v) × (kind_of v ≡ kind)
  has_sample field kind has =
      let at = is_of_head field has.0 has.3 in
      let some : IsSome (sample_value slots samples head field) =
      subst (λ (h : List ℕ). IsSome (sample_value slots samples h field)) at.0
      (subst (λ (f : List ℕ). IsSome (sample_value slots samples (measurement_head has.0.series) f)) at.1 (fits.sampled has.0 (ap is_some has.2))) in
      let v = value_there (sample_value slots samples head field) some in
      let w = sample_cell slots samples head field v.0 v.1 in
      let placed = fits.placed head field w.0 w.1 in (
        w.0,
        v.0,
        w.1,
        w.2,
        fits.one_kind w.0 has.0 v.0 has.1 (sym (fits.agrees w.0) ∙ w.2) has.2 (same_field w.0 has.0 (placed.0 ∙ sym at.0) (placed.1 ∙ sym at.1)) ∙ has.4,
      )
    where
      value_there : (o : Option Value) → IsSome o → (v : Value) × (o ≡ Some v)
      value_there None i = absurd (false≢true i)
      value_there (Some v) i = (v, refl)

  pub fields_are : IfSome (get text_cmp samples head) (λ fields. IsOrdered text_cmp fields) → AreFields points m (kinds_of slots samples head)
  fields_are ordered = by (get text_cmp samples head) refl ordered
    where
      by : (o : Option (BTreeMap (List ℕ) Cell)) → get text_cmp samples head ≡ o → IfSome o (λ fields. IsOrdered text_cmp fields)
          → AreFields points m (option_map_or (λ (fields : BTreeMap (List ℕ) Cell). kinds_listed slots fields.entries) o [])
      by None is ordered = record {
        ascend = sorted_nil text_cmp;
        exact = λ field kind. (
          λ c. absurd (contains_in (field, kind) [] c),
          λ has.
              let s = has_sample field kind has in
              absurd (none_some s.0 (sym (ap (λ (o : Option (BTreeMap (List ℕ) Cell)). option_and_then (λ fields. get text_cmp fields field) o) is) ∙ s.2)),
        );
      }
      by (Some fields) is ordered = record {
        ascend = kinds_sorted slots fields.entries ordered;
        exact = λ field kind. (
          λ c.
              let l = listed_kind slots fields.entries field kind (contains_in (field, kind) (kinds_listed slots fields.entries) c) in
              let sample : sample_of samples head field ≡ Some l.0 =
              ap (λ (o : Option (BTreeMap (List ℕ) Cell)). option_and_then (λ fields. get text_cmp fields field) o) is ∙ in_found nat_list_cmp_total exact_bytes fields ordered field l.0 l.2 in
              let placed = fits.placed head field l.0 sample in
              (l.0, l.1, sym (fits.agrees l.0) ∙ l.3, head_is_of field l.0 placed.0 placed.1, l.4),
          λ has.
              let s = has_sample field kind has in
              let found : get text_cmp fields field ≡ Some s.0 = sym (ap (λ (o : Option (BTreeMap (List ℕ) Cell)). option_and_then (λ fields. get text_cmp fields field) o) is) ∙ s.2 in
              subst (λ (k : Kind). Contains (kinds_listed slots fields.entries) (field, k)) s.4
              (in_contains (field, kind_of s.1) (kinds_listed slots fields.entries) (kind_listed slots fields.entries field s.0 s.1 (found_in nat_list_cmp_total exact_bytes fields ordered field s.0 found) s.3)),
        );
      }
