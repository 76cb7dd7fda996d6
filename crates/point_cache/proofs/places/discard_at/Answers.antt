use Rattle.std.proofs.Common.{inl, inr, refl, sym, ap, ◌∙◌}
use Rattle.indexmap.specs.Layout.{set_value_at}
use Rattle.point_cache.specs.Staged.{entries_of}
use Rattle.point_cache.proofs.EntryLemmas.{entries_of-set, slot_of, none_there}
use Rattle.point_cache.proofs.places.discard_at.Goals as goal

pub returns-in-Some : goal.returns-in-Some
returns-in-Some c =
    let slots = c.args.map.now.entries in
    let slot = slot_of slots c.args.place c.in-Some.run'.now (sym c.in-Some.ensures.value) in
    inr ((slot.0, c.in-Some.run'.now), slot.1, entries_of-set slots c.args.place c.discard.new.self ∙ ap (set_value_at (entries_of slots) c.args.place) c.discard.ensures)

pub returns-in-None : goal.returns-in-None
returns-in-None c = inl (none_there c.args.map.now.entries c.args.place (sym c.in-None.ensures.value), refl)
