-- The new slot is vacant.
use Rattle.std.proofs.Common.{◌∙◌, sym, refl, None}
use Rattle.std.proofs.lemmas.Map.Lookups.{exact_signed}
use Rattle.store_trait.proofs.MapLemmas.{level_added_slot, none_there}
use Rattle.store_trait.proofs.slots.make_row_slot.Goals as goal

pub returns-clause-kept : goal.returns-clause-kept
returns-clause-kept c =
    level_added_slot exact_signed c.args.rows.now c.insert.new.self c.args.time None c.in_ok-insert.ensures.updates.0
    (none_there _ (sym c.contains_key.ensures ∙ c.if-contains_key.false)) refl
