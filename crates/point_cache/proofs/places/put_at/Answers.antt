use Rattle.std.proofs.Common.{sym, ap, ◌∙◌}
use Rattle.indexmap.specs.Layout.{set_value_at}
use Rattle.std.proofs.lemmas.Result.{on_ok_weaker, on_err_weaker}
use Rattle.point_cache.specs.Staged.{entries_of}
use Rattle.point_cache.proofs.EntryLemmas.{entries_of-set, keys_apart, slot_of, set_back}
use Rattle.point_cache.proofs.places.put_at.Goals as goal

pub returns-in-Some-clause-ok : goal.returns-in-Some-clause-ok
returns-in-Some-clause-ok c =
    let slots = c.args.map.now.entries in
    let slot = slot_of slots c.args.place c.in-Some.run'.now (sym c.in-Some.ensures.value) in
    on_ok_weaker c.stage.result
    (λ staged. record {
      entry = (slot.0, c.in-Some.run'.now);
      was = slot.1;
      is = entries_of-set slots c.args.place c.stage.new.self ∙ ap (set_value_at (entries_of slots) c.args.place) staged;
      apart = keys_apart slots c.get_index_mut.ensures.unique;
    }) c.stage.ensures.ok

pub returns-in-Some-clause-err : goal.returns-in-Some-clause-err
returns-in-Some-clause-err c =
    let slots = c.args.map.now.entries in
    let slot = slot_of slots c.args.place c.in-Some.run'.now (sym c.in-Some.ensures.value) in
    on_err_weaker c.stage.result
    (λ same. entries_of-set slots c.args.place c.stage.new.self ∙ ap (set_value_at (entries_of slots) c.args.place) same ∙ set_back (entries_of slots) c.args.place (slot.0, c.in-Some.run'.now) slot.1) c.stage.ensures.err
