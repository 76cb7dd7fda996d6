use Rattle.std.proofs.Common.{sym, ap, ◌∙◌}
use Rattle.indexmap.specs.IndexMap.{values}
use Rattle.indexmap.proofs.CallerLemmas.{keys-with_value_at}
use Rattle.index_lists.specs.Listing.{Listed, Takes, is_listed}
use Rattle.index_lists.proofs.PlaceLemmas.{no_value, one_value}
use Rattle.index_lists.proofs.StepLemmas.{steps_nowhere, steps_set}
use Rattle.index_lists.proofs.places.take_at.Goals as goal

pub returns-in-Some-clause-takes : goal.returns-in-Some-clause-takes
returns-in-Some-clause-takes c = steps_set (Takes c.args.id) c.args.map.now.entries c.args.place c.in-Some.list.now c.take.new.self (sym c.in-Some.ensures.value) c.take.ensures.takes

pub returns-in-None-clause-takes : goal.returns-in-None-clause-takes
returns-in-None-clause-takes c = steps_nowhere (Takes c.args.id) (values c.args.map.now) c.args.place (sym c.in-None.ensures.value)

pub returns-in-Some-clause-terms : goal.returns-in-Some-clause-terms
returns-in-Some-clause-terms c = keys-with_value_at c.args.map.now c.args.place c.take.new.self

pub returns-in-Some-clause-was : goal.returns-in-Some-clause-was
returns-in-Some-clause-was c listed at = c.take.ensures.was ∙ ap (λ (l : Listed). is_listed l.ids c.args.id) (one_value (sym c.in-Some.ensures.value) at)

pub returns-in-None-clause-was : goal.returns-in-None-clause-was
returns-in-None-clause-was c listed at = absurd (no_value (sym c.in-None.ensures.value) at)
