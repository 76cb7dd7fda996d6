-- The keys and rows that are taken of the slots are those of the points.
use Rattle.std.proofs.Common.{◌≡◌, ◌∙◌, ap, sym, refl, subst, ⊎_elim, inl, inr, ◌⊎◌, ◌&&◌, ◌||◌, ◌++◌, ℕ, ℤ, int_le, Bool, true, false, cond, T, List, [], ◌∷◌, map, Option, Some, None, is_some, option_and_then, Ordering, Less, Equal, Greater}
use Rattle.std.specs.BTreeMap.{get, IsOrdered}
use Rattle.std.specs.Cmp.{int_cmp_total}
use Rattle.std.specs.Cmp.Lexicographic.{slice_cmp, nat_list_cmp_total, texts_ties}
use Rattle.std.specs.FinMap.Entries.{is_sorted, same_entries}
use Rattle.std.specs.List.Sorted.{IsStrictlySortedBy}
use Rattle.std.specs.Map.{keys_of}
use Rattle.std.specs.Ordering.{int_cmp, nat_cmp, ordering_then, is_eq}
use Rattle.std.proofs.lemmas.Bool.{false≢true}
use Rattle.std.proofs.lemmas.Map.Lookups.{exact_bytes, exact_signed}
use Rattle.tsdb_types.specs.Series.{is_series_of, IsSeriesText}
use Rattle.tsdb_types.specs.declared.value.Value.{Value}
use Rattle.point_model.specs.declared.need.Need.{Need}
use Rattle.point_model.specs.Conditions.{meets}
use Rattle.point_model.specs.Cursors.{Key, key_cmp, cell_at, in_order, rows_between, rows_needed, AreKeys}
use Rattle.point_model.specs.Points.{Points, cell_cmp, value_at}
use Rattle.point_model.specs.Rows.{Row}
use Rattle.store_trait.specs.Gathered.{has_value, rows_set, rows_taken, fields_listed, listed, AreOrdered, AreOrderedRows, AreSeriesTexts}
use Rattle.store_trait.specs.Plain.{Agrees}
use Rattle.store_trait.specs.Slots.{Rows, Fields, Slots, slot_of, slot_in, slot_at, held, text_cmp}
use Rattle.store_trait.proofs.ConflictLemmas.{none_some}
use Rattle.store_trait.proofs.InLemmas.{In, in_contains, contains_in, in_left, in_right, in_either, in_keys, keys_in, found_in, in_found, sorted_nil, sorted_cons, sorted_first, sorted_rest, sorted_append}
use Rattle.store_trait.proofs.KindLemmas.{text_itself}
use Rattle.point_model.proofs.PointLemmas.{find_is}
use Rattle.store_trait.proofs.RowLemmas.{sorted_test, sorted_rows, find_row, sorted_between, find_between}

tied : (t : List ℕ) → slice_cmp nat_cmp t t ≡ Equal
tied t = equal (slice_cmp nat_cmp t t) (sym (texts_ties t t) ∙ text_itself t t refl)
  where
    equal : (o : Ordering) → is_eq o ≡ true → o ≡ Equal
    equal Less h = absurd (false≢true h)
    equal Equal h = refl
    equal Greater h = absurd (false≢true h)

-- ---- which keys are listed

-- a field is listed where it has a value
field_in : (series : List ℕ) (entries : List (List ℕ × Rows)) (field : List ℕ) (rows : Rows) → In (field, rows) entries → has_value rows.entries ≡ true → In ((series, field), rows) (fields_listed series entries)
field_in series [] field rows m has = absurd m
field_in series (entry ∷ entries) field rows m has =
    ⊎_elim
    (λ (e : entry ≡ (field, rows)).
    let here : has_value entry.1.entries ≡ true = ap (λ (p : List ℕ × Rows). has_value p.1.entries) e ∙ has in
    subst (λ (b : Bool). In ((series, field), rows) (cond b (((series, entry.0), entry.1) ∷ fields_listed series entries) (fields_listed series entries))) (sym here) (inl (λ i. ((series, (e i).0), (e i).1))))
    (λ (later : In (field, rows) entries). behind (has_value entry.1.entries) (field_in series entries field rows later has))
    m
  where
    behind : (b : Bool) → In ((series, field), rows) (fields_listed series entries) → In ((series, field), rows) (cond b (((series, entry.0), entry.1) ∷ fields_listed series entries) (fields_listed series entries))
    behind true n = inr n
    behind false n = n

in_field : (series : List ℕ) (entries : List (List ℕ × Rows)) (key : Key) (rows : Rows) → In (key, rows) (fields_listed series entries)
    → (key.0 ≡ series) × In (key.1, rows) entries × (has_value rows.entries ≡ true)
in_field series [] key rows m = absurd m
in_field series (entry ∷ entries) key rows m = by (has_value entry.1.entries) refl m (λ later. in_field series entries key rows later)
  where
    by : (b : Bool) → has_value entry.1.entries ≡ b → In (key, rows) (cond b (((series, entry.0), entry.1) ∷ fields_listed series entries) (fields_listed series entries))
        → (In (key, rows) (fields_listed series entries) → (key.0 ≡ series) × In (key.1, rows) entries × (has_value rows.entries ≡ true))
        → (key.0 ≡ series) × In (key.1, rows) (entry ∷ entries) × (has_value rows.entries ≡ true)
    by true is n later =
        ⊎_elim
        (λ (e : ((series, entry.0), entry.1) ≡ (key, rows)).
        (sym (ap (λ (p : Key × Rows). p.0.0) e), inl (λ i. ((e i).0.1, (e i).1)), subst (λ (r : Rows). has_value r.entries ≡ true) (ap (λ (p : Key × Rows). p.1) e) is))
        (λ (n' : In (key, rows) (fields_listed series entries)). let r = later n' in (r.0, inr r.1, r.2))
        n
    by false is n later = let r = later n in (r.0, inr r.1, r.2)

module _ (need : Need) where
  abbrev needed : List ℕ → Bool
  needed series = is_series_of need.measurement series && meets need.tags series

  key_listed : (entries : List (List ℕ × Fields)) (series field : List ℕ) (fields : Fields) (rows : Rows) → In (series, fields) entries → needed series ≡ true
      → In (field, rows) fields.entries → has_value rows.entries ≡ true → In ((series, field), rows) (listed need entries)
  key_listed [] series field fields rows m n f has = absurd m
  key_listed (entry ∷ entries) series field fields rows m n f has =
      ⊎_elim
      (λ (e : entry ≡ (series, fields)).
      let here : needed entry.0 ≡ true = ap (λ (p : List ℕ × Fields). needed p.0) e ∙ n in
      subst (λ (b : Bool). In ((series, field), rows) (cond b (fields_listed entry.0 entry.1.entries ++ listed need entries) (listed need entries))) (sym here)
      (in_left ((series, field), rows) (fields_listed entry.0 entry.1.entries) (listed need entries)
      (subst (λ (p : List ℕ × Fields). In ((series, field), rows) (fields_listed p.0 p.1.entries)) (sym e) (field_in series fields.entries field rows f has))))
      (λ (later : In (series, fields) entries). behind (needed entry.0) (key_listed entries series field fields rows later n f has))
      m
    where
      behind : (b : Bool) → In ((series, field), rows) (listed need entries) → In ((series, field), rows) (cond b (fields_listed entry.0 entry.1.entries ++ listed need entries) (listed need entries))
      behind true k = in_right ((series, field), rows) (fields_listed entry.0 entry.1.entries) (listed need entries) k
      behind false k = k

  listed_key : (entries : List (List ℕ × Fields)) (key : Key) (rows : Rows) → In (key, rows) (listed need entries)
      → (fields : Fields) × In (key.0, fields) entries × (needed key.0 ≡ true) × In (key.1, rows) fields.entries × (has_value rows.entries ≡ true)
  listed_key [] key rows m = absurd m
  listed_key (entry ∷ entries) key rows m = by (needed entry.0) refl m (λ later. listed_key entries key rows later)
    where
      by : (b : Bool) → needed entry.0 ≡ b → In (key, rows) (cond b (fields_listed entry.0 entry.1.entries ++ listed need entries) (listed need entries))
          → (In (key, rows) (listed need entries) → (fields : Fields) × In (key.0, fields) entries × (needed key.0 ≡ true) × In (key.1, rows) fields.entries × (has_value rows.entries ≡ true))
          → (fields : Fields) × In (key.0, fields) (entry ∷ entries) × (needed key.0 ≡ true) × In (key.1, rows) fields.entries × (has_value rows.entries ≡ true)
      by true is n later =
          ⊎_elim
          (λ (a : In (key, rows) (fields_listed entry.0 entry.1.entries)).
          let f = in_field entry.0 entry.1.entries key rows a in
          (entry.1, inl (λ i. (sym f.0 i, entry.1)), ap needed f.0 ∙ is, f.1, f.2))
          (λ (b : In (key, rows) (listed need entries)). let r = later b in (r.0, inr r.1, r.2, r.3, r.4))
          (in_either (key, rows) (fields_listed entry.0 entry.1.entries) (listed need entries) n)
      by false is n later = let r = later n in (r.0, inr r.1, r.2, r.3, r.4)

  -- ---- in which order

  fields_sorted : (series : List ℕ) (entries : List (List ℕ × Rows)) → IsStrictlySortedBy text_cmp (keys_of entries) → IsStrictlySortedBy key_cmp (keys_of (fields_listed series entries))
  fields_sorted series [] s = sorted_nil key_cmp
  fields_sorted series (entry ∷ entries) s = by (has_value entry.1.entries) (fields_sorted series entries (sorted_rest text_cmp entry.0 (keys_of entries) s))
    where
      by : (b : Bool) → IsStrictlySortedBy key_cmp (keys_of (fields_listed series entries)) → IsStrictlySortedBy key_cmp (keys_of (cond b (((series, entry.0), entry.1) ∷ fields_listed series entries) (fields_listed series entries)))
      by true t =
          sorted_cons key_cmp (series, entry.0) (keys_of (fields_listed series entries))
          (λ y m.
          let r = in_keys y (fields_listed series entries) m in
          let f = in_field series entries y r.0 r.1 in
          let less = sorted_first text_cmp entry.0 (keys_of entries) s y.1 (keys_in y.1 r.0 entries f.1) in
          subst (λ (t : List ℕ). ordering_then (slice_cmp nat_cmp series t) (slice_cmp nat_cmp entry.0 y.1) ≡ Less) (sym f.0)
          (ap (λ (o : Ordering). ordering_then o (slice_cmp nat_cmp entry.0 y.1)) (tied series) ∙ less))
          t
      by false t = t

  pub listed_sorted : (entries : List (List ℕ × Fields)) → IsStrictlySortedBy text_cmp (keys_of entries) → AreOrdered need entries → IsStrictlySortedBy key_cmp (keys_of (listed need entries))
  listed_sorted [] s o = sorted_nil key_cmp
  listed_sorted (entry ∷ entries) s o = by (needed entry.0) refl (listed_sorted entries (sorted_rest text_cmp entry.0 (keys_of entries) s) o.1)
    where
      joined : (xs ys : List (Key × Rows)) → keys_of (xs ++ ys) ≡ keys_of xs ++ keys_of ys
      joined [] ys = refl
      joined (x ∷ xs) ys = ap (λ (ks : List Key). x.0 ∷ ks) (joined xs ys)

      by : (b : Bool) → needed entry.0 ≡ b → IsStrictlySortedBy key_cmp (keys_of (listed need entries))
          → IsStrictlySortedBy key_cmp (keys_of (cond b (fields_listed entry.0 entry.1.entries ++ listed need entries) (listed need entries)))
      by true is t =
          subst (λ (ks : List Key). IsStrictlySortedBy key_cmp ks) (sym (joined (fields_listed entry.0 entry.1.entries) (listed need entries)))
          (sorted_append key_cmp (keys_of (fields_listed entry.0 entry.1.entries)) (keys_of (listed need entries))
          (fields_sorted entry.0 entry.1.entries (o.0 is).0) t
          (λ x y m n.
          let a = in_keys x (fields_listed entry.0 entry.1.entries) m in
          let f = in_field entry.0 entry.1.entries x a.0 a.1 in
          let b = in_keys y (listed need entries) n in
          let g = listed_key entries y b.0 b.1 in
          let less = sorted_first text_cmp entry.0 (keys_of entries) s y.0 (keys_in y.0 g.0 entries g.1) in
          subst (λ (t : List ℕ). ordering_then (slice_cmp nat_cmp t y.0) (slice_cmp nat_cmp x.1 y.1) ≡ Less) (sym f.0)
          (ap (λ (r : Ordering). ordering_then r (slice_cmp nat_cmp x.1 y.1)) less)))
      by false is t = t

  -- ---- what stands in the slots

  ordered_fields : (entries : List (List ℕ × Fields)) → AreOrdered need entries → (series : List ℕ) (fields : Fields) → In (series, fields) entries → needed series ≡ true → IsOrdered text_cmp fields × AreOrderedRows fields.entries
  ordered_fields [] o series fields m n = absurd m
  ordered_fields (entry ∷ entries) o series fields m n =
      ⊎_elim
      (λ (e : entry ≡ (series, fields)).
      subst (λ (p : List ℕ × Fields). IsOrdered text_cmp p.1 × AreOrderedRows p.1.entries) e (o.0 (ap (λ (p : List ℕ × Fields). needed p.0) e ∙ n)))
      (λ (later : In (series, fields) entries). ordered_fields entries o.1 series fields later n)
      m

pub ordered_rows : (entries : List (List ℕ × Rows)) → AreOrderedRows entries → (field : List ℕ) (rows : Rows) → In (field, rows) entries → IsOrdered int_cmp rows
ordered_rows [] o field rows m = absurd m
ordered_rows (entry ∷ entries) o field rows m =
    ⊎_elim
    (λ (e : entry ≡ (field, rows)). subst (λ (p : List ℕ × Rows). IsOrdered int_cmp p.1) e o.0)
    (λ (later : In (field, rows) entries). ordered_rows entries o.1 field rows later)
    m

some_there : {X : Type 0} (o : Option X) → is_some o ≡ true → (x : X) × (o ≡ Some x)
some_there None i = absurd (false≢true i)
some_there (Some x) i = (x, refl)

or_either : (a b : Bool) → (a || b) ≡ true → (a ≡ true) ⊎ (b ≡ true)
or_either true b e = inl refl
or_either false b e = inr e

or_right : (a b : Bool) → b ≡ true → (a || b) ≡ true
or_right true b e = refl
or_right false b e = e

-- where a slot has a value, which
value_in : (entries : List (ℤ × Option Value)) → has_value entries ≡ true → (time : ℤ) × (value : Value) × In (time, Some value) entries
value_in [] has = absurd (false≢true has)
value_in (entry ∷ entries) has =
    ⊎_elim
    (λ (e : is_some entry.1 ≡ true). let v = some_there entry.1 e in (entry.0, v.0, inl (λ i. (entry.0, v.1 i))))
    (λ (later : has_value entries ≡ true). let r = value_in entries later in (r.0, r.1, inr r.2))
    (or_either (is_some entry.1) (has_value entries) has)

in_value : (entries : List (ℤ × Option Value)) (time : ℤ) (value : Value) → In (time, Some value) entries → has_value entries ≡ true
in_value [] time value m = absurd m
in_value (entry ∷ entries) time value m =
    ⊎_elim
    (λ (e : entry ≡ (time, Some value)). subst (λ (o : Option Value). (is_some o || has_value entries) ≡ true) (sym (ap (λ (p : ℤ × Option Value). p.1) e)) refl)
    (λ (later : In (time, Some value) entries). or_right (is_some entry.1) (has_value entries) (in_value entries time value later))
    m

-- what a look-up of a look-up finds
opened : {X Y : Type 0} (read : X → Option Y) (o : Option X) (y : Y) → option_and_then read o ≡ Some y → (x : X) × (o ≡ Some x) × (read x ≡ Some y)
opened read None y e = absurd (none_some y e)
opened read (Some x) y e = (x, refl, e)

module _ (need : Need) (slots : Slots) (points : Points) (agrees : Agrees slots points) (sorted : T (is_sorted cell_cmp points))
    (ordered : IsOrdered text_cmp slots) (all_ordered : AreOrdered need slots.entries) where
  -- the column of a listed key
  column : (key : Key) (rows : Rows) → In (key, rows) (listed need slots.entries) → (time : ℤ) → slot_at slots (cell_at key time) ≡ get int_cmp rows time
  column key rows m time =
      let l = listed_key need slots.entries key rows m in
      let o = ordered_fields need slots.entries all_ordered key.0 l.0 l.1 l.2 in
      ap (λ (s : Option Fields). option_and_then (λ fields. slot_in fields key.1 time) s) (in_found nat_list_cmp_total exact_bytes slots ordered key.0 l.0 l.1)
      ∙ ap (λ (s : Option Rows). option_and_then (λ (r : Rows). slot_of r time) s) (in_found nat_list_cmp_total exact_bytes l.0 o.0 key.1 rows l.3)

  in_time : (key : Key) (rows : Rows) → In (key, rows) (listed need slots.entries) → IsOrdered int_cmp rows
  in_time key rows m =
      let l = listed_key need slots.entries key rows m in
      let o = ordered_fields need slots.entries all_ordered key.0 l.0 l.1 l.2 in
      ordered_rows l.0.entries o.1 key.1 rows l.3

  pub keys_are : AreKeys points need (keys_of (listed need slots.entries))
  keys_are = record {
    ascend = listed_sorted need slots.entries ordered all_ordered;
    exact = λ key. (
      λ c.
          let r = in_keys key (listed need slots.entries) (contains_in key (keys_of (listed need slots.entries)) c) in
          let l = listed_key need slots.entries key r.0 r.1 in
          let v = value_in r.0.entries l.4 in
          let found = in_found int_cmp_total exact_signed r.0 (in_time key r.0 r.1) v.0 (Some v.1) v.2 in
          (v.0, ap is_some (sym (agrees (cell_at key v.0)) ∙ ap held (column key r.0 r.1 v.0 ∙ found)), l.2),
      λ has.
          let v = some_there (value_at points (cell_at key has.0)) has.1 in
          let slot = opened (λ (value : Option Value). value) (slot_at slots (cell_at key has.0)) v.0 (agrees (cell_at key has.0) ∙ v.1) in
          let fields = opened (λ fields. slot_in fields key.1 has.0) (get text_cmp slots key.0) slot.0 slot.1 in
          let rows = opened (λ (r : Rows). slot_of r has.0) (get text_cmp fields.0 key.1) slot.0 fields.2 in
          let at = found_in nat_list_cmp_total exact_bytes slots ordered key.0 fields.0 fields.1 in
          let o = ordered_fields need slots.entries all_ordered key.0 fields.0 at has.2 in
          let at_field = found_in nat_list_cmp_total exact_bytes fields.0 o.0 key.1 rows.0 rows.1 in
          let at_time = found_in int_cmp_total exact_signed rows.0 (ordered_rows fields.0.entries o.1 key.1 rows.0 at_field) has.0 (Some v.0) (rows.2 ∙ ap Some slot.2) in
          in_contains key (keys_of (listed need slots.entries))
          (keys_in key rows.0 (listed need slots.entries) (key_listed need slots.entries key.0 key.1 fields.0 rows.0 at has.2 at_field (in_value rows.0.entries has.0 v.0 at_time))),
    );
  }

  -- the rows of a listed key are those of the points
  pub rows_are : (key : Key) (rows : Rows) → In (key, rows) (listed need slots.entries) → rows_taken need rows ≡ rows_needed need points key
  rows_are key rows m =
      ap (λ (rs : List Row). in_order need.descending rs)
      (same_entries int_cmp int_cmp_total exact_signed (rows_set need.from need.to rows.entries) (rows_between need.from need.to points key)
      (sorted_rows need.from need.to rows.entries (sorted_test int_cmp rows.entries (in_time key rows m)))
      (sorted_between need.from need.to key points sorted)
      (λ t.
      find_row need.from need.to t rows.entries (sorted_test int_cmp rows.entries (in_time key rows m))
      ∙ ap (λ (o : Option Value). cond (int_le need.from t && int_le t need.to) o None)
      (ap held (find_is int_cmp t rows.entries ∙ sym (column key rows m t)) ∙ agrees (cell_at key t))
      ∙ sym (find_between need.from need.to key t points)))

  pub all_rows_are : (es : List (Key × Rows)) → ((key : Key) (rows : Rows) → In (key, rows) es → In (key, rows) (listed need slots.entries))
      → map (λ (e : Key × Rows). rows_taken need e.1) es ≡ map (rows_needed need points) (keys_of es)
  all_rows_are [] part = refl
  all_rows_are (e ∷ es) part =
      ap (λ (rs : List Row). rs ∷ map (λ (f : Key × Rows). rows_taken need f.1) es) (rows_are e.0 e.1 (part e.0 e.1 (inl refl)))
      ∙ ap (λ (rss : List (List Row)). rows_needed need points e.0 ∷ rss) (all_rows_are es (λ key rows m. part key rows (inr m)))

-- the series of a listed key is the text of a series
pub listed_texts : (need : Need) (entries : List (List ℕ × Fields)) → AreSeriesTexts need entries → (series field : List ℕ) → In (series, field) (keys_of (listed need entries)) → IsSeriesText series
listed_texts need entries texts series field m =
    let r = in_keys (series, field) (listed need entries) m in
    let l = listed_key need entries (series, field) r.0 r.1 in
    series_texts entries texts series l.0 l.1 l.2
  where
    series_texts : (es : List (List ℕ × Fields)) → AreSeriesTexts need es → (s : List ℕ) (fields : Fields) → In (s, fields) es → needed need s ≡ true → IsSeriesText s
    series_texts [] t s fields n is = absurd n
    series_texts (e ∷ es) t s fields n is =
        ⊎_elim
        (λ (same : e ≡ (s, fields)). subst (λ (p : List ℕ × Fields). IsSeriesText p.0) same (t.0 (ap (λ (p : List ℕ × Fields). needed need p.0) same ∙ is)))
        (λ (later : In (s, fields) es). series_texts es t.1 s fields later is)
        n
