-- A measurement is read in one way.
use Rattle.std.proofs.Common.{◌≡◌, ℕ, List, ◌++◌, Option, IsTrue, sym, ap, ◌∙◌, subst}
use Rattle.std.specs.List.{AllByRecursion}
use Rattle.index_file.specs.declared.content.NameIds.{NameIds}
use Rattle.index_file.specs.declared.content.TagIds.{TagIds}
use Rattle.index_file.specs.declared.content.MeasurementIds.{MeasurementIds}
use Rattle.index_file.specs.Contents.{AreAllAmong, AreIds, AreNamed, AreTags, IsMeasurement, IsText, name_cmp, some_has}
use Rattle.index_file.specs.Format.{counted_bytes, ids_bytes, measurement_bytes, named_bytes, tag_bytes, text_bytes}
use Rattle.index_file.specs.Taking.{IsBehind}
use Rattle.index_file.proofs.TakeLemmas.{StandsNone}
use Rattle.index_file.proofs.TextLemmas.{same_text}
use Rattle.index_file.proofs.ItemLemmas.{measurement_parts, same_ids, same_lists, same_tags}

-- a good measurement that may come behind the last one
abbrev pub MayBeNext : Option (List ℕ) → MeasurementIds → Type 0
MayBeNext last measurement = IsMeasurement measurement × IsBehind name_cmp last measurement.name

-- the ids are those of the fields
abbrev pub AreOfFields : List ℕ → List NameIds → Type 0
AreOfFields ids fields = AreAllAmong ids fields × AllByRecursion (λ id. IsTrue (some_has fields id)) ids

-- those of the tags' values are among them
abbrev pub AreOfTags : List ℕ → List TagIds → Type 0
AreOfTags ids tags = AllByRecursion (λ tag. AreAllAmong ids tag.values) tags

-- what was read of a measurement so far: its name, its ids, its fields and its tags
pub record HasName (bytes : List ℕ) (name behind : List ℕ) : Type 0 where
  pub good : IsText name
  pub is : bytes ≡ text_bytes name ++ behind

pub record HasIds (bytes : List ℕ) (name ids behind : List ℕ) : Type 0 where
  pub left : List ℕ
  pub before : HasName bytes name left
  pub good : AreIds ids
  pub is : left ≡ ids_bytes ids ++ behind

pub record HasFields (bytes : List ℕ) (name ids : List ℕ) (fields : List NameIds) (behind : List ℕ) : Type 0 where
  pub left : List ℕ
  pub before : HasIds bytes name ids left
  pub good : AreNamed fields
  pub is : left ≡ counted_bytes named_bytes fields ++ behind

pub record HasTags (bytes : List ℕ) (name ids : List ℕ) (fields : List NameIds) (tags : List TagIds) (behind : List ℕ) : Type 0 where
  pub left : List ℕ
  pub before : HasFields bytes name ids fields left
  pub good : AreTags tags
  pub is : left ≡ counted_bytes tag_bytes tags ++ behind

-- ---- whoever reads a measurement there reads these first

pub at_name : (bytes name behind : List ℕ) (x : MeasurementIds) (more : List ℕ) → HasName bytes name behind → IsMeasurement x → bytes ≡ measurement_bytes x ++ more
    → (name ≡ x.name) × (behind ≡ ids_bytes x.ids ++ (counted_bytes named_bytes x.fields ++ (counted_bytes tag_bytes x.tags ++ more)))
at_name bytes name behind x more had good is =
    same_text name x.name behind (ids_bytes x.ids ++ (counted_bytes named_bytes x.fields ++ (counted_bytes tag_bytes x.tags ++ more))) had.good good.name (sym had.is ∙ is ∙ measurement_parts x more)

pub at_ids : (bytes name ids behind : List ℕ) (x : MeasurementIds) (more : List ℕ) → HasIds bytes name ids behind → IsMeasurement x → bytes ≡ measurement_bytes x ++ more
    → (ids ≡ x.ids) × (behind ≡ counted_bytes named_bytes x.fields ++ (counted_bytes tag_bytes x.tags ++ more))
at_ids bytes name ids behind x more had good is =
    let first = at_name bytes name had.left x more had.before good is in
    same_ids ids x.ids behind (counted_bytes named_bytes x.fields ++ (counted_bytes tag_bytes x.tags ++ more)) had.good good.ids (sym had.is ∙ first.1)

pub at_fields : (bytes name ids : List ℕ) (fields : List NameIds) (behind : List ℕ) (x : MeasurementIds) (more : List ℕ) → HasFields bytes name ids fields behind → IsMeasurement x → bytes ≡ measurement_bytes x ++ more
    → (fields ≡ x.fields) × (behind ≡ counted_bytes tag_bytes x.tags ++ more)
at_fields bytes name ids fields behind x more had good is =
    let first = at_ids bytes name ids had.left x more had.before good is in
    same_lists fields x.fields behind (counted_bytes tag_bytes x.tags ++ more) had.good good.fields (sym had.is ∙ first.1)

pub at_tags : (bytes name ids : List ℕ) (fields : List NameIds) (tags : List TagIds) (behind : List ℕ) (x : MeasurementIds) (more : List ℕ) → HasTags bytes name ids fields tags behind → IsMeasurement x → bytes ≡ measurement_bytes x ++ more
    → (tags ≡ x.tags) × (behind ≡ more)
at_tags bytes name ids fields tags behind x more had good is =
    let first = at_fields bytes name ids fields had.left x more had.before good is in
    same_tags tags x.tags behind more had.good good.tags (sym had.is ∙ first.1)

-- ---- where none stands

pub no_name : (bytes : List ℕ) (last : Option (List ℕ)) → StandsNone (λ (n : List ℕ). IsText n × IsBehind name_cmp last n) text_bytes bytes → StandsNone (MayBeNext last) measurement_bytes bytes
no_name bytes last none x more next is =
    none x.name (ids_bytes x.ids ++ (counted_bytes named_bytes x.fields ++ (counted_bytes tag_bytes x.tags ++ more))) (next.0.name, next.1) (is ∙ measurement_parts x more)

pub no_ids : (bytes name behind : List ℕ) (last : Option (List ℕ)) → HasName bytes name behind → StandsNone AreIds ids_bytes behind → StandsNone (MayBeNext last) measurement_bytes bytes
no_ids bytes name behind last had none x more next is =
    none x.ids (counted_bytes named_bytes x.fields ++ (counted_bytes tag_bytes x.tags ++ more)) next.0.ids (at_name bytes name behind x more had next.0 is).1

pub no_fields : (bytes name ids behind : List ℕ) (last : Option (List ℕ)) → HasIds bytes name ids behind → StandsNone AreNamed (counted_bytes named_bytes) behind → StandsNone (MayBeNext last) measurement_bytes bytes
no_fields bytes name ids behind last had none x more next is =
    none x.fields (counted_bytes tag_bytes x.tags ++ more) next.0.fields (at_ids bytes name ids behind x more had next.0 is).1

pub other_fields : (bytes name ids : List ℕ) (fields : List NameIds) (behind : List ℕ) (last : Option (List ℕ)) → HasFields bytes name ids fields behind → ¬ AreOfFields ids fields → StandsNone (MayBeNext last) measurement_bytes bytes
other_fields bytes name ids fields behind last had none x more next is =
    let same_fields = at_fields bytes name ids fields behind x more had next.0 is in
    let same = at_ids bytes name ids had.left x more had.before next.0 is in
    none (subst (λ (fs : List NameIds). AreOfFields ids fs) (sym same_fields.0) (subst (λ (l : List ℕ). AreOfFields l x.fields) (sym same.0) (next.0.known, next.0.found)))

pub no_tags : (bytes name ids : List ℕ) (fields : List NameIds) (behind : List ℕ) (last : Option (List ℕ)) → HasFields bytes name ids fields behind → StandsNone AreTags (counted_bytes tag_bytes) behind
    → StandsNone (MayBeNext last) measurement_bytes bytes
no_tags bytes name ids fields behind last had none x more next is = none x.tags more next.0.tags (at_fields bytes name ids fields behind x more had next.0 is).1

pub other_tags : (bytes name ids : List ℕ) (fields : List NameIds) (tags : List TagIds) (behind : List ℕ) (last : Option (List ℕ)) → HasTags bytes name ids fields tags behind → ¬ AreOfTags ids tags
    → StandsNone (MayBeNext last) measurement_bytes bytes
other_tags bytes name ids fields tags behind last had none x more next is =
    let same_tags = at_tags bytes name ids fields tags behind x more had next.0 is in
    let same = at_ids bytes name ids had.before.left x more had.before.before next.0 is in
    none (subst (λ (ts : List TagIds). AreOfTags ids ts) (sym same_tags.0) (subst (λ (l : List ℕ). AreOfTags l x.tags) (sym same.0) next.0.tagged))

-- ---- the whole measurement

pub whole : (bytes : List ℕ) (x : MeasurementIds) (behind : List ℕ) → HasTags bytes x.name x.ids x.fields x.tags behind → bytes ≡ measurement_bytes x ++ behind
whole bytes x behind had =
    had.before.before.before.is
    ∙ ap (λ (l : List ℕ). text_bytes x.name ++ l) (had.before.before.is ∙ ap (λ (l : List ℕ). ids_bytes x.ids ++ l) (had.before.is ∙ ap (λ (l : List ℕ). counted_bytes named_bytes x.fields ++ l) had.is))
    ∙ sym (measurement_parts x behind)

pub good : (bytes : List ℕ) (x : MeasurementIds) (behind : List ℕ) → HasTags bytes x.name x.ids x.fields x.tags behind → AreOfFields x.ids x.fields → AreOfTags x.ids x.tags → IsMeasurement x
good bytes x behind had fields tags = record {
  name = had.before.before.before.good;
  ids = had.before.before.good;
  fields = had.before.good;
  known = fields.0;
  found = fields.1;
  tags = had.good;
  tagged = tags;
}
