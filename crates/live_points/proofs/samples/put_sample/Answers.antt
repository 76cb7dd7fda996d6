-- The measurement is added where it isn't there, and then the sample in its fields.
use Rattle.std.proofs.Common.{◌∙◌, ap, cond, List, ℕ, Option, Some, sym, rules, ◌&&◌}
use Rattle.std.specs.BTreeMap.{get, is_at}
use Rattle.std.proofs.lemmas.Map.Lookups.{exact_bytes}
use Rattle.store_trait.specs.Slots.{text_cmp}
use Rattle.store_trait.proofs.MapLemmas.{level_set, level_keeps}
use Rattle.store_trait.proofs.ResultLemmas.{on_ok_map, on_err_map}
use Rattle.live_points.proofs.samples.put_sample.Goals as goal

pub returns-in-Some-clause-ok : goal.returns-in-Some-clause-ok
returns-in-Some-clause-ok c =
    on_ok_map c.put_field_sample.result
    (λ set m f.
    level_set exact_bytes c.add_heading.new.samples (c.get_mut.follows.lender c.put_field_sample.new.fields) c.args.heading.now c.put_field_sample.new.fields
    ((c.get_mut.follows.holds c.put_field_sample.new.fields).3 (search rules)).0
    c.in-Some.fields.now (sym c.in-Some.ensures.value) (λ fields. get text_cmp fields f) (is_at (text_cmp c.args.column.now.field) f) (Some c.args.column.now.series) (set f) m
    ∙ ap (λ (o : Option (List ℕ)). cond (is_at (text_cmp c.args.heading.now) m && is_at (text_cmp c.args.column.now.field) f) (Some c.args.column.now.series) o) (c.in_ok-add_heading.ensures.kept m f))
    c.put_field_sample.ensures.ok

pub returns-in-Some-clause-err : goal.returns-in-Some-clause-err
returns-in-Some-clause-err c =
    on_err_map c.put_field_sample.result
    (λ same m f.
    level_keeps exact_bytes c.add_heading.new.samples (c.get_mut.follows.lender c.put_field_sample.new.fields) c.args.heading.now c.in-Some.fields.now c.put_field_sample.new.fields
    ((c.get_mut.follows.holds c.put_field_sample.new.fields).3 (search rules)).0
    (sym c.in-Some.ensures.value) (λ fields. get text_cmp fields f) (same f) m
    ∙ c.in_ok-add_heading.ensures.kept m f)
    c.put_field_sample.ensures.err
