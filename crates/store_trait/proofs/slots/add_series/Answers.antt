-- The new series has no slot.
use Rattle.std.proofs.Common.{◌∙◌, ap, List, ℕ, sym}
use Rattle.std.specs.BTreeMap.{get}
use Rattle.std.proofs.lemmas.Map.Lookups.{exact_bytes}
use Rattle.store_trait.proofs.MapLemmas.{level_added_map, none_there}
use Rattle.store_trait.specs.Slots.{slot_of, text_cmp}
use Rattle.store_trait.proofs.slots.add_series.Goals as goal

pub returns-clause-kept : goal.returns-clause-kept
returns-clause-kept c = λ q.
    level_added_map text_cmp exact_bytes c.args.slots.now c.insert.new.self c.in_ok-carry.field-0 c.new.result
    c.in_ok-insert.ensures.updates.0
    (ap (λ (k : List ℕ). get text_cmp c.args.slots.now k) c.in_ok-carry.ensures ∙ none_there _ (sym c.contains_key.ensures ∙ c.if-contains_key.false)) c.new.ensures.empty
    q.field (λ rows. slot_of rows q.time) q.series
