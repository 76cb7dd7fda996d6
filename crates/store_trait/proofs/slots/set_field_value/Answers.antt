use Rattle.std.proofs.Common.{sym, rules, Some}
use Rattle.std.specs.BTreeMap.{is_at}
use Rattle.std.specs.Ordering.{int_cmp}
use Rattle.std.proofs.lemmas.Map.Lookups.{exact_bytes}
use Rattle.store_trait.specs.Slots.{slot_of}
use Rattle.store_trait.proofs.MapLemmas.{level_set}
use Rattle.store_trait.proofs.slots.set_field_value.Goals as goal

pub returns-in-Some : goal.returns-in-Some
returns-in-Some c = λ f t.
    level_set exact_bytes c.args.fields.now (c.get_mut.follows.lender c.set_row_value.new.rows) c.args.field.now c.set_row_value.new.rows ((c.get_mut.follows.holds c.set_row_value.new.rows).3 (search rules)).0
    c.in-Some.rows.now (sym c.in-Some.ensures.value) (λ rows. slot_of rows t) (is_at (int_cmp c.args.time) t) (Some (Some c.args.value)) (c.set_row_value.ensures t) f
