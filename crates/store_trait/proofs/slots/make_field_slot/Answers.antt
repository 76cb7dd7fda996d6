-- The field is added where it isn't there, and then the slot in its rows.
use Rattle.std.proofs.Common.{sym, rules}
use Rattle.std.proofs.lemmas.Map.Lookups.{exact_bytes}
use Rattle.store_trait.specs.Slots.{slot_of}
use Rattle.store_trait.proofs.MapLemmas.{level_stays, stays_then}
use Rattle.store_trait.proofs.slots.make_field_slot.Goals as goal

pub returns-in-Some-clause-kept : goal.returns-in-Some-clause-kept
returns-in-Some-clause-kept c = λ f t.
    stays_then _ _ _ (c.in_ok-add_field.ensures.kept f t)
    (level_stays exact_bytes c.add_field.new.fields (c.get_mut.follows.lender c.make_row_slot.new.rows) c.args.field.now c.make_row_slot.new.rows ((c.get_mut.follows.holds c.make_row_slot.new.rows).3 (search rules)).0
    c.in-Some.rows.now (sym c.in-Some.ensures.value) (λ rows. slot_of rows t) (c.make_row_slot.ensures.kept t) f)
