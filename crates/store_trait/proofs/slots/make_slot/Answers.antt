-- The series is added where it isn't there, and then the slot in its fields.
use Rattle.std.proofs.Common.{sym, rules}
use Rattle.std.proofs.lemmas.Map.Lookups.{exact_bytes}
use Rattle.store_trait.specs.Slots.{slot_in}
use Rattle.store_trait.proofs.MapLemmas.{level_stays, stays_then}
use Rattle.store_trait.proofs.slots.make_slot.Goals as goal

pub returns-in-Some-clause-kept : goal.returns-in-Some-clause-kept
returns-in-Some-clause-kept c = λ q.
    stays_then _ _ _ (c.in_ok-add_series.ensures.kept q)
    (level_stays exact_bytes c.add_series.new.slots (c.get_mut.follows.lender c.make_field_slot.new.fields) c.args.cell.now.series c.make_field_slot.new.fields ((c.get_mut.follows.holds c.make_field_slot.new.fields).3 (search rules)).0
    c.in-Some.fields.now (sym c.in-Some.ensures.value) (λ fields. slot_in fields q.field q.time) (c.make_field_slot.ensures.kept q.field q.time) q.series)
