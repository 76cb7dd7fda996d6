-- Cells are equal where their series, fields and times are.
use Rattle.std.proofs.Common.{sym, rules, Some, ap, ◌∙◌, ◌&&◌, cond, Bool}
use Rattle.std.specs.BTreeMap.{is_at}
use Rattle.std.specs.Ordering.{int_cmp}
use Rattle.std.proofs.lemmas.Map.Lookups.{exact_bytes}
use Rattle.store_trait.specs.Slots.{slot_in, slot_at, text_cmp}
use Rattle.store_trait.proofs.MapLemmas.{level_set}
use Rattle.point_model.proofs.PointLemmas.{cell_test}
use Rattle.store_trait.proofs.slots.set_value.Goals as goal

pub returns-in-Some : goal.returns-in-Some
returns-in-Some c = λ q.
    level_set exact_bytes c.args.slots.now (c.get_mut.follows.lender c.set_field_value.new.fields) c.args.cell.now.series c.set_field_value.new.fields
    ((c.get_mut.follows.holds c.set_field_value.new.fields).3 (search rules)).0
    c.in-Some.fields.now (sym c.in-Some.ensures.value) (λ fields. slot_in fields q.field q.time)
    (is_at (text_cmp c.args.cell.now.field) q.field && is_at (int_cmp c.args.cell.now.time) q.time) (Some (Some c.args.value)) (c.set_field_value.ensures q.field q.time) q.series
    ∙ ap (λ (b : Bool). cond b (Some (Some c.args.value)) (slot_at c.args.slots.now q)) (cell_test c.args.cell.now q)
