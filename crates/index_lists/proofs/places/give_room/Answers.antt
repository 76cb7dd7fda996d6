use Rattle.std.proofs.Common.{sym, ap, arith}
use Rattle.indexmap.specs.IndexMap.{values}
use Rattle.indexmap.proofs.CallerLemmas.{keys-with_value_at}
use Rattle.index_lists.specs.Listing.{Listed}
use Rattle.index_lists.specs.Steps.{GivesRoom}
use Rattle.index_lists.proofs.StepLemmas.{steps_nowhere, steps_set}
use Rattle.index_lists.proofs.places.give_room.Goals as goal

pub returns-in-Some-clause-gives : goal.returns-in-Some-clause-gives
returns-in-Some-clause-gives c =
    let e = c.give_room.ensures in
    steps_set GivesRoom c.args.map.now.entries c.args.place c.in-Some.list.now c.give_room.new.self (sym c.in-Some.ensures.value)
    (ap (λ (l : Listed). l.ids) e, (let r = ap (λ (l : Listed). l.room) e in omega (arith, r)))

pub returns-in-None-clause-gives : goal.returns-in-None-clause-gives
returns-in-None-clause-gives c = steps_nowhere GivesRoom (values c.args.map.now) c.args.place (sym c.in-None.ensures.value)

pub returns-in-Some-clause-terms : goal.returns-in-Some-clause-terms
returns-in-Some-clause-terms c = keys-with_value_at c.args.map.now c.args.place c.give_room.new.self
