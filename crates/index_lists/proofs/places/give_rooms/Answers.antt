use Rattle.std.proofs.Common.{refl, ◌∙◌}
use Rattle.indexmap.specs.IndexMap.{values}
use Rattle.index_lists.specs.Steps.{GivesRoom}
use Rattle.index_lists.proofs.StepLemmas.{steps_all, steps_more, steps_none}
use Rattle.index_lists.proofs.places.give_rooms.Goals as goal

pub loop-place-init : goal.loop-place-init
loop-place-init c = record { terms = refl; steps = steps_none GivesRoom (values c.args.map.now) }

pub loop-place-preserved : goal.loop-place-preserved
loop-place-preserved c =
    let inv = c.loop-place.invariant in
    record {
      terms = c.give_room.ensures.terms ∙ inv.terms;
      steps = steps_more GivesRoom c.args.places.now c.loop-place.place-index (values c.args.map.now) (values c.loop-place.map) (values c.give_room.new.map) c.loop-place-test.true inv.steps c.give_room.ensures.gives;
    }

pub returns-clause-terms : goal.returns-clause-terms
returns-clause-terms c = c.loop-place.invariant.terms

pub returns-clause-gives : goal.returns-clause-gives
returns-clause-gives c = steps_all GivesRoom c.args.places.now c.loop-place.place-index (values c.args.map.now) (values c.loop-place.map) c.loop-place-test.false c.loop-place.invariant.steps
