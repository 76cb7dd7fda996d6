use Rattle.std.proofs.Common.{List, refl, sym, ◌∙◌, subst, take}
use Rattle.indexmap.specs.IndexMap.{values}
use Rattle.index_lists.specs.Listing.{Listed}
use Rattle.index_lists.specs.Steps.{KeepsIds, MakesRoom}
use Rattle.index_lists.proofs.PlaceLemmas.{on_err, steps_keep}
use Rattle.index_lists.proofs.StepLemmas.{steps_all, steps_more, steps_none}
use Rattle.index_lists.proofs.places.make_rooms.Goals as goal

pub loop-place-init : goal.loop-place-init
loop-place-init c = record { terms = refl; steps = steps_none MakesRoom (values c.args.map.now) }

pub returns-in_err-make_room-clause-err : goal.returns-in_err-make_room-clause-err
returns-in_err-make_room-clause-err c =
    on_err c.from_residual.result
    (subst (λ (ls : List Listed). KeepsIds (values c.args.map.now) ls) (sym c.in_err-make_room.ensures.err)
    (steps_keep (take c.loop-place.place-index c.args.places.now) (values c.args.map.now) (values c.loop-place.map) c.loop-place.invariant.steps))

pub loop-place-preserved : goal.loop-place-preserved
loop-place-preserved c =
    let inv = c.loop-place.invariant in
    record {
      terms = c.make_room.ensures.terms ∙ inv.terms;
      steps = steps_more MakesRoom c.args.places.now c.loop-place.place-index (values c.args.map.now) (values c.loop-place.map) (values c.make_room.new.map) c.loop-place-test.true inv.steps c.in_ok-make_room.ensures.ok;
    }

pub returns-clause-terms : goal.returns-clause-terms
returns-clause-terms c = c.loop-place.invariant.terms

pub returns-clause-ok : goal.returns-clause-ok
returns-clause-ok c = steps_all MakesRoom c.args.places.now c.loop-place.place-index (values c.args.map.now) (values c.loop-place.map) c.loop-place-test.false c.loop-place.invariant.steps
