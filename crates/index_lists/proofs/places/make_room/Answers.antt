use Rattle.std.proofs.Common.{Some, sym, ap, ◌∙◌, arith}
use Rattle.std.proofs.lemmas.Result.{on_ok_weaker, on_err_weaker}
use Rattle.indexmap.specs.IndexMap.{values}
use Rattle.indexmap.proofs.CallerLemmas.{keys-with_value_at}
use Rattle.index_lists.specs.Listing.{Listed}
use Rattle.index_lists.specs.Steps.{MakesRoom}
use Rattle.index_lists.proofs.StepLemmas.{set_back, steps_nowhere, steps_set}
use Rattle.index_lists.proofs.places.make_room.Goals as goal

pub returns-in-Some-clause-ok : goal.returns-in-Some-clause-ok
returns-in-Some-clause-ok c =
    on_ok_weaker c.make_room.result
    (λ e. steps_set MakesRoom c.args.map.now.entries c.args.place c.in-Some.list.now c.make_room.new.self (sym c.in-Some.ensures.value)
    (ap (λ (l : Listed). l.ids) e, (let r = ap (λ (l : Listed). l.room) e in omega (arith, r)))) c.make_room.ensures.ok

pub returns-in-None-clause-ok : goal.returns-in-None-clause-ok
returns-in-None-clause-ok c = steps_nowhere MakesRoom (values c.args.map.now) c.args.place (sym c.in-None.ensures.value)

pub returns-in-Some-clause-terms : goal.returns-in-Some-clause-terms
returns-in-Some-clause-terms c = keys-with_value_at c.args.map.now c.args.place c.make_room.new.self

pub returns-in-Some-clause-err : goal.returns-in-Some-clause-err
returns-in-Some-clause-err c =
    on_err_weaker c.make_room.result
    (λ e. set_back c.args.map.now.entries c.args.place c.make_room.new.self (sym c.in-Some.ensures.value ∙ ap (λ (l : Listed). Some l) (sym e))) c.make_room.ensures.err
