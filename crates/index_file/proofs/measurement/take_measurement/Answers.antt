use Rattle.std.proofs.Common.{ℕ, List, refl, sym, ◌∙◌, subst}
use Rattle.std.proofs.lemmas.Bool.{false≢true}
use Rattle.index_file.specs.declared.content.NameIds.{NameIds}
use Rattle.index_file.specs.declared.content.TagIds.{TagIds}
use Rattle.index_file.specs.declared.content.MeasurementIds.{MeasurementIds}
use Rattle.index_file.specs.Contents.{AreIds, AreNamed, AreTags, IsText, name_cmp}
use Rattle.index_file.specs.Format.{counted_bytes, ids_bytes, measurement_bytes, named_bytes, tag_bytes, text_bytes}
use Rattle.index_file.specs.Taking.{IsBehind}
use Rattle.index_file.proofs.TakeLemmas.{stopped}
use Rattle.index_file.proofs.MeasurementLemmas.{AreOfFields, AreOfTags, HasFields, HasIds, HasName, HasTags, MayBeNext, no_name, no_ids, no_fields, other_fields, no_tags, other_tags, whole, good}
use Rattle.index_file.proofs.measurement.take_measurement.Goals as goal

pub returns-in_err-name : goal.returns-in_err-name
returns-in_err-name c =
    stopped (λ (n : List ℕ). IsText n × IsBehind name_cmp c.args.last.now n) text_bytes (MayBeNext c.args.last.now) measurement_bytes c.from_residual.result c.in_err-name.field-0.0 c.args.rest.now
    c.take_name_behind.new.rest c.args.rest.now c.take_name_behind.new.rest c.from_residual.ensures.1 c.in_err-name.ensures (no_name c.args.rest.now c.args.last.now)

pub returns-in_err-ids : goal.returns-in_err-ids
returns-in_err-ids c =
    let name : HasName c.args.rest.now c.in_ok-name.name c.take_name_behind.new.rest = record { good = c.in_ok-name.ensures.0.0; is = c.in_ok-name.ensures.1 } in
    stopped AreIds ids_bytes (MayBeNext c.args.last.now) measurement_bytes c.from_residual-in_err-ids.result c.in_err-ids.field-0.0 c.take_name_behind.new.rest c.take_ids.new.rest
    c.args.rest.now c.take_ids.new.rest c.from_residual-in_err-ids.ensures.1 c.in_err-ids.ensures (no_ids c.args.rest.now c.in_ok-name.name c.take_name_behind.new.rest c.args.last.now name)

pub returns-in_err-fields : goal.returns-in_err-fields
returns-in_err-fields c =
    let name : HasName c.args.rest.now c.in_ok-name.name c.take_name_behind.new.rest = record { good = c.in_ok-name.ensures.0.0; is = c.in_ok-name.ensures.1 } in
    let ids : HasIds c.args.rest.now c.in_ok-name.name c.in_ok-ids.ids c.take_ids.new.rest = record { left = c.take_name_behind.new.rest; before = name; good = c.in_ok-ids.ensures.0; is = c.in_ok-ids.ensures.1 } in
    stopped AreNamed (counted_bytes named_bytes) (MayBeNext c.args.last.now) measurement_bytes c.from_residual-in_err-fields.result c.in_err-fields.field-0.0 c.take_ids.new.rest c.take_lists.new.rest
    c.args.rest.now c.take_lists.new.rest c.from_residual-in_err-fields.ensures.1 c.in_err-fields.ensures (no_fields c.args.rest.now c.in_ok-name.name c.in_ok-ids.ids c.take_ids.new.rest c.args.last.now ids)

pub returns-then-not-branch : goal.returns-then-not-branch
returns-then-not-branch c =
    let name : HasName c.args.rest.now c.in_ok-name.name c.take_name_behind.new.rest = record { good = c.in_ok-name.ensures.0.0; is = c.in_ok-name.ensures.1 } in
    let ids : HasIds c.args.rest.now c.in_ok-name.name c.in_ok-ids.ids c.take_ids.new.rest = record { left = c.take_name_behind.new.rest; before = name; good = c.in_ok-ids.ensures.0; is = c.in_ok-ids.ensures.1 } in
    let fields : HasFields c.args.rest.now c.in_ok-name.name c.in_ok-ids.ids c.in_ok-fields.fields c.take_lists.new.rest = record { left = c.take_ids.new.rest; before = ids; good = c.in_ok-fields.ensures.0; is = c.in_ok-fields.ensures.1 } in
    other_fields c.args.rest.now c.in_ok-name.name c.in_ok-ids.ids c.in_ok-fields.fields c.take_lists.new.rest c.args.last.now fields
    (λ (are : AreOfFields c.in_ok-ids.ids c.in_ok-fields.fields). false≢true (sym c.if-not-branch.true ∙ c.in_ok-are_of_fields.ensures.1
    (subst (λ (l : List ℕ). AreOfFields l c.as_slice-2.result.now) (sym c.as_slice.ensures) (subst (λ (fs : List NameIds). AreOfFields c.in_ok-ids.ids fs) (sym c.as_slice-2.ensures) are))))

pub returns-in_err-tags : goal.returns-in_err-tags
returns-in_err-tags c =
    let name : HasName c.args.rest.now c.in_ok-name.name c.take_name_behind.new.rest = record { good = c.in_ok-name.ensures.0.0; is = c.in_ok-name.ensures.1 } in
    let ids : HasIds c.args.rest.now c.in_ok-name.name c.in_ok-ids.ids c.take_ids.new.rest = record { left = c.take_name_behind.new.rest; before = name; good = c.in_ok-ids.ensures.0; is = c.in_ok-ids.ensures.1 } in
    let fields : HasFields c.args.rest.now c.in_ok-name.name c.in_ok-ids.ids c.in_ok-fields.fields c.take_lists.new.rest = record { left = c.take_ids.new.rest; before = ids; good = c.in_ok-fields.ensures.0; is = c.in_ok-fields.ensures.1 } in
    stopped AreTags (counted_bytes tag_bytes) (MayBeNext c.args.last.now) measurement_bytes c.from_residual-in_err-tags.result c.in_err-tags.field-0.0 c.take_lists.new.rest c.take_tags.new.rest
    c.args.rest.now c.take_tags.new.rest c.from_residual-in_err-tags.ensures.1 c.in_err-tags.ensures (no_tags c.args.rest.now c.in_ok-name.name c.in_ok-ids.ids c.in_ok-fields.fields c.take_lists.new.rest c.args.last.now fields)

pub returns-then-not-are_of_tags : goal.returns-then-not-are_of_tags
returns-then-not-are_of_tags c =
    let name : HasName c.args.rest.now c.in_ok-name.name c.take_name_behind.new.rest = record { good = c.in_ok-name.ensures.0.0; is = c.in_ok-name.ensures.1 } in
    let ids : HasIds c.args.rest.now c.in_ok-name.name c.in_ok-ids.ids c.take_ids.new.rest = record { left = c.take_name_behind.new.rest; before = name; good = c.in_ok-ids.ensures.0; is = c.in_ok-ids.ensures.1 } in
    let fields : HasFields c.args.rest.now c.in_ok-name.name c.in_ok-ids.ids c.in_ok-fields.fields c.take_lists.new.rest = record { left = c.take_ids.new.rest; before = ids; good = c.in_ok-fields.ensures.0; is = c.in_ok-fields.ensures.1 } in
    let tags : HasTags c.args.rest.now c.in_ok-name.name c.in_ok-ids.ids c.in_ok-fields.fields c.in_ok-tags.tags c.take_tags.new.rest =
    record { left = c.take_lists.new.rest; before = fields; good = c.in_ok-tags.ensures.0; is = c.in_ok-tags.ensures.1 } in
    other_tags c.args.rest.now c.in_ok-name.name c.in_ok-ids.ids c.in_ok-fields.fields c.in_ok-tags.tags c.take_tags.new.rest c.args.last.now tags
    (λ (are : AreOfTags c.in_ok-ids.ids c.in_ok-tags.tags). false≢true (c.if-not-are_of_tags.ensures.1
    (subst (λ (l : List ℕ). AreOfTags l c.as_slice-4.result.now) (sym c.as_slice-3.ensures) (subst (λ (ts : List TagIds). AreOfTags c.in_ok-ids.ids ts) (sym c.as_slice-4.ensures) are))))

pub returns : goal.returns
returns c =
    let name : HasName c.args.rest.now c.in_ok-name.name c.take_name_behind.new.rest = record { good = c.in_ok-name.ensures.0.0; is = c.in_ok-name.ensures.1 } in
    let ids : HasIds c.args.rest.now c.in_ok-name.name c.in_ok-ids.ids c.take_ids.new.rest = record { left = c.take_name_behind.new.rest; before = name; good = c.in_ok-ids.ensures.0; is = c.in_ok-ids.ensures.1 } in
    let fields : HasFields c.args.rest.now c.in_ok-name.name c.in_ok-ids.ids c.in_ok-fields.fields c.take_lists.new.rest = record { left = c.take_ids.new.rest; before = ids; good = c.in_ok-fields.ensures.0; is = c.in_ok-fields.ensures.1 } in
    let tags : HasTags c.args.rest.now c.in_ok-name.name c.in_ok-ids.ids c.in_ok-fields.fields c.in_ok-tags.tags c.take_tags.new.rest =
    record { left = c.take_lists.new.rest; before = fields; good = c.in_ok-tags.ensures.0; is = c.in_ok-tags.ensures.1 } in
    let item : MeasurementIds = record { name = c.in_ok-name.name; ids = c.in_ok-ids.ids; fields = c.in_ok-fields.fields; tags = c.in_ok-tags.tags } in
    let of_fields : AreOfFields c.in_ok-ids.ids c.in_ok-fields.fields =
    subst (λ (fs : List NameIds). AreOfFields c.in_ok-ids.ids fs) c.as_slice-2.ensures (subst (λ (l : List ℕ). AreOfFields l c.as_slice-2.result.now) c.as_slice.ensures (c.in_ok-are_of_fields.ensures.0 c.if-not-branch.false)) in
    let of_tags : AreOfTags c.in_ok-ids.ids c.in_ok-tags.tags =
    subst (λ (ts : List TagIds). AreOfTags c.in_ok-ids.ids ts) c.as_slice-4.ensures (subst (λ (l : List ℕ). AreOfTags l c.as_slice-4.result.now) c.as_slice-3.ensures (c.if-not-are_of_tags.ensures.0 refl)) in
    ((good c.args.rest.now item c.take_tags.new.rest tags of_fields of_tags, c.in_ok-name.ensures.0.1), whole c.args.rest.now item c.take_tags.new.rest tags)
