-- What the taking of samples leaves of the samples.
use Rattle.std.proofs.Common.{◌≡◌, ◌∙◌, ap, sym, subst, refl, inl, inr, ⊎_elim, ◌⊎◌, Bool, true, false, cond, ◌&&◌, Option, Some, None, IsSome, List, ℕ, ◌<◌, slice_get, option_and_then, Result, OnOk, OnErr, length, get_or}
use Rattle.std.specs.BTreeMap.{is_at}
use Rattle.std.proofs.lemmas.Option.{slice_get-get_or}
use Rattle.std.specs.Cmp.{eq_by_cmp_equiv}
use Rattle.std.specs.Cmp.Lexicographic.{nat_list_cmp_total}
use Rattle.std.proofs.lemmas.Bool.{cases_Bool, false≢true, cond-true, cond-false}
use Rattle.std.proofs.lemmas.Map.Lookups.{exact_bytes}
use Rattle.std.proofs.lemmas.Map.Views.{tells_apart}
use Rattle.tsdb_types.specs.declared.point.Cell.{Cell}
use Rattle.tsdb_types.specs.declared.point.Point.{Point}
use Rattle.tsdb_types.specs.declared.value.Value.{Value}
use Rattle.point_model.specs.Measurements.{measurement_head}
use Rattle.store_trait.specs.Slots.{Slots, Samples, slot_at, sample_of, held, text_cmp}
use Rattle.store_trait.specs.Plain.{sample_value, SamplesOne, Resamples, IsSampled, IsIn}
use Rattle.store_trait.proofs.ResultLemmas.{by_result}

first_true : (a b : Bool) → (a && b) ≡ true → a ≡ true
first_true true b e = refl
first_true false b e = e

second_true : (a b : Bool) → (a && b) ≡ true → b ≡ true
second_true true b e = e
second_true false b e = absurd (false≢true e)

-- one sample is put, in the place of one without a value
pub samples_one : {T E : Type 0} (slots : Slots) (point : Point) (old new : Samples) (heading : List ℕ) (r : Result T E)
    → heading ≡ measurement_head point.cell.series
    → sample_value slots old heading point.cell.field ≡ None
    → OnOk r ((m f : List ℕ) → sample_of new m f ≡ cond (is_at (text_cmp heading) m && is_at (text_cmp point.cell.field) f) (Some point.cell) (sample_of old m f))
    → OnErr r ((m f : List ℕ) → sample_of new m f ≡ sample_of old m f)
    → SamplesOne slots point old new
samples_one slots point old new heading r at none ok err =
    by_result r
    (λ (set : (m f : List ℕ) → sample_of new m f ≡ cond (is_at (text_cmp heading) m && is_at (text_cmp point.cell.field) f) (Some point.cell) (sample_of old m f)) m f.
    let test = is_at (text_cmp heading) m && is_at (text_cmp point.cell.field) f in
    ⊎_elim
    (λ (e : test ≡ true).
    let same_m : heading ≡ m = tells_apart exact_bytes heading m (first_true _ _ e) in
    let same_f : point.cell.field ≡ f = tells_apart exact_bytes point.cell.field f (second_true (is_at (text_cmp heading) m) _ e) in
    inr (
      ap (λ (k : List ℕ). sample_value slots old k f) (sym same_m) ∙ ap (λ (k : List ℕ). sample_value slots old heading k) (sym same_f) ∙ none,
      set m f ∙ cond-true test (Some point.cell) (sample_of old m f) e,
      sym at ∙ same_m,
      same_f,
    ))
    (λ (e : test ≡ false). inl (set m f ∙ cond-false test (Some point.cell) (sample_of old m f) e))
    (cases_Bool test))
    (λ (same : (m f : List ℕ) → sample_of new m f ≡ sample_of old m f) m f. inl (same m f))
    ok err

-- the sample that was put is there
pub sample_put : (point : Point) (old new : Samples) (heading : List ℕ)
    → ((m f : List ℕ) → sample_of new m f ≡ cond (is_at (text_cmp heading) m && is_at (text_cmp point.cell.field) f) (Some point.cell) (sample_of old m f))
    → sample_of new heading point.cell.field ≡ Some point.cell
sample_put point old new heading set =
    set heading point.cell.field ∙ cond-true _ (Some point.cell) (sample_of old heading point.cell.field) (itself heading point.cell.field)
  where
    itself : (m f : List ℕ) → (is_at (text_cmp m) m && is_at (text_cmp f) f) ≡ true
    itself m f = let laws = eq_by_cmp_equiv nat_list_cmp_total in ap (λ (b : Bool). b && is_at (text_cmp f) f) (laws.refl m) ∙ laws.refl f

value_same : (slots : Slots) (old new : Samples) (m f : List ℕ) → sample_of new m f ≡ sample_of old m f → sample_value slots new m f ≡ sample_value slots old m f
value_same slots old new m f e = ap (λ (o : Option Cell). option_and_then (λ (cell : Cell). held (slot_at slots cell)) o) e

-- one step more
pub resample_step : (slots : Slots) (points : List Point) (old mid new : Samples) (point : Point) → IsIn points point
    → Resamples slots points old mid → SamplesOne slots point mid new → Resamples slots points old new
resample_step slots points old mid new point there first one m f =
    ⊎_elim
    (λ same. ⊎_elim (λ before. inl (same ∙ before)) (λ taken. inr (taken.0, taken.1, taken.2, same ∙ taken.3, taken.4, taken.5)) (first m f))
    (λ put. inr (⊎_elim (λ before. sym (value_same slots old mid m f before) ∙ put.0) (λ taken. taken.0) (first m f), point, there, put.1, put.2, put.3))
    (one m f)

pub sampled_step : (slots : Slots) (points : List Point) (mid new : Samples) (point p : Point) → IsIn points point
    → IsSampled slots points mid p → SamplesOne slots point mid new → IsSampled slots points new p
sampled_step slots points mid new point p there before one =
    let m = measurement_head p.cell.series in
    let f = p.cell.field in
    ⊎_elim
    (λ (same : sample_of new m f ≡ sample_of mid m f).
    ⊎_elim
    (λ has. inl (subst (λ (o : Option Value). IsSome o) (sym (value_same slots mid new m f same)) has))
    (λ other. inr (other.0, other.1, same ∙ other.2))
    before)
    (λ put. inr (point, there, put.1))
    (one m f)

pub sampled_now : (slots : Slots) (points : List Point) (new : Samples) (point : Point) (heading : List ℕ) → IsIn points point → heading ≡ measurement_head point.cell.series
    → (IsSome (sample_value slots new heading point.cell.field) ⊎ (sample_of new heading point.cell.field ≡ Some point.cell)) → IsSampled slots points new point
sampled_now slots points new point heading there at known =
    subst
    (λ (m : List ℕ). (IsSome (sample_value slots new m point.cell.field) ⊎ ((other : Point) × IsIn points other × (sample_of new m point.cell.field ≡ Some other.cell))))
    at
    (⊎_elim (λ has. inl has) (λ put. inr (point, there, put)) known)

-- the item of a loop over a list
pub item_at : (points : List Point) (i : ℕ) (item : Point) → i < length points → item ≡ get_or points i item → slice_get points i ≡ Some item
item_at points i item l is = slice_get-get_or points i item l ∙ ap Some (sym is)

pub some_same : {X : Type 0} (o : Option X) (a b : X) → o ≡ Some a → o ≡ Some b → a ≡ b
some_same o a b e f = cc
