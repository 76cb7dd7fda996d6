-- What the learning of columns leaves of the keys and of the samples.
use Rattle.std.proofs.Common.{◌≡◌, ◌∙◌, ap, sym, subst, refl, inl, inr, ⊎_elim, ◌⊎◌, Bool, true, false, cond, ◌&&◌, Option, Some, None, IsSome, is_some, List, ℕ, ◌<◌, slice_get, option_and_then, Result, OnOk, OnErr, length, get_or}
use Rattle.std.specs.BTreeMap.{is_at}
use Rattle.std.specs.BTreeSet.{Updates, contains}
use Rattle.std.specs.List.{list_any}
use Rattle.std.proofs.lemmas.Option.{slice_get-get_or}
use Rattle.std.specs.Cmp.{eq_by_cmp_equiv}
use Rattle.std.specs.Cmp.Lexicographic.{nat_list_cmp_total}
use Rattle.std.proofs.lemmas.Bool.{cases_Bool, cond-true, cond-false, false≢true}
use Rattle.std.proofs.lemmas.Map.Lookups.{exact_bytes}
use Rattle.std.proofs.lemmas.Map.Views.{tells_apart}
use Rattle.tsdb_types.specs.Keys.{IsFirstMark}
use Rattle.tsdb_types.specs.declared.column.Column.{Column}
use Rattle.tsdb_types.specs.declared.value.Kind.{Kind}
use Rattle.point_model.specs.Cursors.{Key, key_cmp}
use Rattle.point_model.specs.Measurements.{measurement_head}
use Rattle.point_model.proofs.FieldLemmas.{and_first, and_second}
use Rattle.point_cache.specs.declared.key_points.KeyRun.{KeyRun}
use Rattle.store_trait.specs.Slots.{text_cmp}
use Rattle.store_trait.proofs.ResultLemmas.{by_result}
use Rattle.live_points.specs.Held.{composite, kind_at}
use Rattle.live_points.specs.Known.{Holds, IsKnown, Keys, Samples, kind_in, kind_of_column, sample_of}
use Rattle.live_points.specs.Learned.{Adds, IsAmong, IsLearnedWhere, IsSampled, Learns, Resamples, SamplesKnown, SamplesOne, key_of_column}
use Rattle.live_points.proofs.CutLemmas.{cut_composite}
use Rattle.live_points.proofs.KnownLemmas.{some_kind_value}
use Rattle.live_points.proofs.ListedLemmas.{key_exact, key_total}

-- ---- keys

kept_with : (b has : Bool) → has ≡ true → cond b true has ≡ true
kept_with true has e = refl
kept_with false has e = e

-- a key is put in
pub adds_key : (key : Key) (old new : Keys) → Updates key_cmp old new key true → Adds key old new
adds_key key old new updates = record {
  kept = λ other known. updates.0 other ∙ kept_with (is_at (key_cmp key) other) (contains key_cmp old other) known;
  added = λ other known.
      ⊎_elim
      (λ (e : is_at (key_cmp key) other ≡ true). inr (tells_apart key_exact key other e))
      (λ (e : is_at (key_cmp key) other ≡ false). inl (sym (cond-false (is_at (key_cmp key) other) true (contains key_cmp old other) e) ∙ sym (updates.0 other) ∙ known))
      (cases_Bool (is_at (key_cmp key) other));
}

-- and is there
pub key_added : (key : Key) (old new : Keys) → Updates key_cmp old new key true → IsKnown new key
key_added key old new updates =
    updates.0 key ∙ cond-true (is_at (key_cmp key) key) true (contains key_cmp old key) (let laws = eq_by_cmp_equiv key_total in laws.refl key)

-- nothing is put in
pub adds_none : (key : Key) (old new : Keys) → new.keys ≡ old.keys → Adds key old new
adds_none key old new same =
    let is : (other : Key) → contains key_cmp new other ≡ contains key_cmp old other = λ other. ap (λ ks. list_any (is_at (key_cmp other)) ks) same in
    record { kept = λ other known. is other ∙ known; added = λ other known. inl (sym (is other) ∙ known) }

pub learns_none : (columns : List Column) (keys : Keys) → Learns columns keys keys
learns_none columns keys = record { kept = λ key known. known; added = λ key known. inl known }

pub learns_step : (columns : List Column) (old mid new : Keys) (column : Column) → IsAmong columns column → Learns columns old mid → Adds (key_of_column column) mid new → Learns columns old new
learns_step columns old mid new column there learns adds = record {
  kept = λ key known. adds.kept key (learns.kept key known);
  added = λ key known.
      ⊎_elim (λ before. learns.added key before) (λ same. inr (column, there, same)) (adds.added key known);
}

-- ---- samples

-- one sample is put, in the place of one without points
pub samples_one : {T E : Type 0} (runs : List KeyRun) (column : Column) (old new : Samples) (heading : List ℕ) (r : Result T E)
    → heading ≡ measurement_head column.series
    → kind_in runs old heading column.field ≡ None
    → OnOk r ((m f : List ℕ) → sample_of new m f ≡ cond (is_at (text_cmp heading) m && is_at (text_cmp column.field) f) (Some column.series) (sample_of old m f))
    → OnErr r ((m f : List ℕ) → sample_of new m f ≡ sample_of old m f)
    → SamplesOne runs column old new
samples_one runs column old new heading r at none ok err =
    by_result r
    (λ (set : (m f : List ℕ) → sample_of new m f ≡ cond (is_at (text_cmp heading) m && is_at (text_cmp column.field) f) (Some column.series) (sample_of old m f)) m f.
    let test = is_at (text_cmp heading) m && is_at (text_cmp column.field) f in
    ⊎_elim
    (λ (e : test ≡ true).
    let same_m : heading ≡ m = tells_apart exact_bytes heading m (and_first _ _ e) in
    let same_f : column.field ≡ f = tells_apart exact_bytes column.field f (and_second (is_at (text_cmp heading) m) _ e) in
    inr (
      ap (λ (k : List ℕ). kind_in runs old k f) (sym same_m) ∙ ap (λ (k : List ℕ). kind_in runs old heading k) (sym same_f) ∙ none,
      set m f ∙ cond-true test (Some column.series) (sample_of old m f) e,
      sym at ∙ same_m,
      same_f,
    ))
    (λ (e : test ≡ false). inl (set m f ∙ cond-false test (Some column.series) (sample_of old m f) e))
    (cases_Bool test))
    (λ (same : (m f : List ℕ) → sample_of new m f ≡ sample_of old m f) m f. inl (same m f))
    ok err

-- the sample that was put is there
pub sample_put : (column : Column) (old new : Samples) (heading : List ℕ)
    → ((m f : List ℕ) → sample_of new m f ≡ cond (is_at (text_cmp heading) m && is_at (text_cmp column.field) f) (Some column.series) (sample_of old m f))
    → sample_of new heading column.field ≡ Some column.series
sample_put column old new heading set =
    set heading column.field ∙ cond-true _ (Some column.series) (sample_of old heading column.field) (itself heading column.field)
  where
    itself : (m f : List ℕ) → (is_at (text_cmp m) m && is_at (text_cmp f) f) ≡ true
    itself m f = let laws = eq_by_cmp_equiv nat_list_cmp_total in ap (λ (b : Bool). b && is_at (text_cmp f) f) (laws.refl m) ∙ laws.refl f

kind_same : (runs : List KeyRun) (old new : Samples) (m f : List ℕ) → sample_of new m f ≡ sample_of old m f → kind_in runs new m f ≡ kind_in runs old m f
kind_same runs old new m f e = ap (λ (o : Option (List ℕ)). option_and_then (λ (series : List ℕ). kind_at runs (series, f)) o) e

-- more keys are known
pub resamples_keys : (runs : List KeyRun) (columns : List Column) (keys more : Keys) (old new : Samples) → ((key : Key) → IsKnown keys key → IsKnown more key)
    → Resamples runs columns keys old new → Resamples runs columns more old new
resamples_keys runs columns keys more old new kept resamples m f =
    ⊎_elim (λ same. inl same) (λ put. inr (put.0, put.1, put.2, put.3, put.4, put.5, kept (key_of_column put.1) put.6)) (resamples m f)

-- a column whose key is known took what was taken
pub samples_known : (runs : List KeyRun) (column : Column) (keys : Keys) (old new : Samples) → IsKnown keys (key_of_column column) → SamplesOne runs column old new → SamplesKnown runs column keys old new
samples_known runs column keys old new known one m f = ⊎_elim (λ same. inl same) (λ put. inr (put.0, put.1, put.2, put.3, known)) (one m f)

-- one step more
pub resample_step : (runs : List KeyRun) (columns : List Column) (keys : Keys) (old mid new : Samples) (column : Column) → IsAmong columns column
    → Resamples runs columns keys old mid → SamplesKnown runs column keys mid new → Resamples runs columns keys old new
resample_step runs columns keys old mid new column there first one m f =
    ⊎_elim
    (λ same. ⊎_elim (λ before. inl (same ∙ before)) (λ taken. inr (taken.0, taken.1, taken.2, same ∙ taken.3, taken.4, taken.5, taken.6)) (first m f))
    (λ put. inr (⊎_elim (λ before. sym (kind_same runs old mid m f before) ∙ put.0) (λ taken. taken.0) (first m f), column, there, put.1, put.2, put.3, put.4))
    (one m f)

pub sampled_step : (runs : List KeyRun) (columns : List Column) (keys : Keys) (mid new : Samples) (column other : Column) → IsAmong columns column
    → IsSampled runs columns mid other → SamplesKnown runs column keys mid new → IsSampled runs columns new other
sampled_step runs columns keys mid new column other there before one =
    let m = measurement_head other.series in
    let f = other.field in
    ⊎_elim
    (λ (same : sample_of new m f ≡ sample_of mid m f).
    ⊎_elim
    (λ has. inl (subst (λ (o : Option Kind). IsSome o) (sym (kind_same runs mid new m f same)) has))
    (λ old. inr (old.0, old.1, same ∙ old.2, old.3))
    before)
    (λ put. inr (column, there, put.1, put.3))
    (one m f)

pub sampled_now : (runs : List KeyRun) (columns : List Column) (new : Samples) (column : Column) → IsAmong columns column
    → (IsSome (kind_of_column runs new column) ⊎ (sample_of new (measurement_head column.series) column.field ≡ Some column.series)) → IsSampled runs columns new column
sampled_now runs columns new column there known = ⊎_elim (λ has. inl has) (λ put. inr (column, there, put, refl)) known

-- a column with points was known and sampled before the columns that were learned, and is
pub learned_where : (runs : List KeyRun) (columns : List Column) (keys more : Keys) (samples taken : Samples) → Holds runs keys samples → (column : Column)
    → IsFirstMark (composite (key_of_column column)) (length column.series) → Learns columns keys more → Resamples runs columns more samples taken → IsLearnedWhere runs more taken column
learned_where runs columns keys more samples taken holds column marked learns resamples some =
    let key = key_of_column column in
    let value = some_kind_value runs key some in
    let known : IsKnown keys key = subst (λ (k : Key). IsKnown keys k) (cut_composite key marked) (holds.known (composite key) value.0 value.1).0 in
    let had = holds.sampled key known some in
    let m = measurement_head column.series in (
      learns.kept key known,
      ⊎_elim
          (λ (same : sample_of taken m column.field ≡ sample_of samples m column.field). subst (λ (o : Option Kind). IsSome o) (sym (kind_same runs samples taken m column.field same)) had)
          (λ put. absurd (false≢true (sym (ap is_some put.0) ∙ had)))
          (resamples m column.field),
    )

-- the item of a loop over a list
pub item_at : (columns : List Column) (i : ℕ) (item : Column) → i < length columns → item ≡ get_or columns i item → slice_get columns i ≡ Some item
item_at columns i item l is = slice_get-get_or columns i item l ∙ ap Some (sym is)

pub some_same : {X : Type 0} (o : Option X) (a b : X) → o ≡ Some a → o ≡ Some b → a ≡ b
some_same o a b e f = cc
