-- The new field has no slot.
use Rattle.std.proofs.Common.{◌∙◌, ap, List, ℕ, sym}
use Rattle.std.specs.Ordering.{int_cmp}
use Rattle.std.specs.BTreeMap.{get}
use Rattle.std.proofs.lemmas.Map.Lookups.{exact_bytes}
use Rattle.store_trait.proofs.MapLemmas.{level_added, nothing_in, none_there}
use Rattle.store_trait.specs.Slots.{slot_of, held, text_cmp}
use Rattle.store_trait.proofs.slots.add_field.Goals as goal

pub returns-clause-kept : goal.returns-clause-kept
returns-clause-kept c = λ f t.
    level_added exact_bytes c.args.fields.now c.insert.new.self c.in_ok-carry.field-0 c.new.result
    c.in_ok-insert.ensures.updates.0
    (ap (λ (k : List ℕ). get text_cmp c.args.fields.now k) c.in_ok-carry.ensures ∙ none_there _ (sym c.contains_key.ensures ∙ c.if-contains_key.false))
    (λ rows. slot_of rows t)
    (ap held (nothing_in int_cmp c.new.result c.new.ensures.empty t)) f
