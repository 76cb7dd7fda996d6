use Rattle.std.proofs.Common.{not, sym, ap, ◌∙◌}
use Rattle.indexmap.specs.IndexMap.{values}
use Rattle.indexmap.proofs.CallerLemmas.{keys-with_value_at}
use Rattle.index_lists.specs.Listing.{Listed, Puts, is_listed}
use Rattle.index_lists.proofs.PlaceLemmas.{no_value, one_room, one_value}
use Rattle.index_lists.proofs.StepLemmas.{steps_nowhere, steps_set}
use Rattle.index_lists.proofs.places.put_at.Goals as goal

pub returns-in-Some-clause-puts : goal.returns-in-Some-clause-puts
returns-in-Some-clause-puts c = steps_set (Puts c.args.id) c.args.map.now.entries c.args.place c.in-Some.list.now c.put.new.self (sym c.in-Some.ensures.value) c.put.ensures.puts

pub returns-in-None-clause-puts : goal.returns-in-None-clause-puts
returns-in-None-clause-puts c = steps_nowhere (Puts c.args.id) (values c.args.map.now) c.args.place (sym c.in-None.ensures.value)

pub returns-in-Some-clause-terms : goal.returns-in-Some-clause-terms
returns-in-Some-clause-terms c = keys-with_value_at c.args.map.now c.args.place c.put.new.self

pub put-requires : goal.put-requires
put-requires c = one_room c.args.place (values c.args.map.now) c.in-Some.list.now c.requires (sym c.in-Some.ensures.value)

pub returns-in-Some-clause-fresh : goal.returns-in-Some-clause-fresh
returns-in-Some-clause-fresh c listed at = c.put.ensures.fresh ∙ ap (λ (l : Listed). not (is_listed l.ids c.args.id)) (one_value (sym c.in-Some.ensures.value) at)

pub returns-in-None-clause-fresh : goal.returns-in-None-clause-fresh
returns-in-None-clause-fresh c listed at = absurd (no_value (sym c.in-None.ensures.value) at)
