use Rattle.std.proofs.Common.{refl, ◌∙◌}
use Rattle.indexmap.specs.IndexMap.{values}
use Rattle.index_lists.specs.Listing.{Takes}
use Rattle.index_lists.proofs.StepLemmas.{steps_all, steps_more, steps_none}
use Rattle.index_lists.proofs.places.take_all.Goals as goal

pub loop-place-init : goal.loop-place-init
loop-place-init c = record { terms = refl; steps = steps_none (Takes c.args.id) (values c.args.map.now) }

pub loop-place-preserved : goal.loop-place-preserved
loop-place-preserved c =
    let inv = c.loop-place.invariant in
    record {
      terms = c.take_at.ensures.terms ∙ inv.terms;
      steps = steps_more (Takes c.args.id) c.args.places.now c.loop-place.place-index (values c.args.map.now) (values c.loop-place.map) (values c.take_at.new.map) c.loop-place-test.true inv.steps c.take_at.ensures.takes;
    }

pub returns-clause-terms : goal.returns-clause-terms
returns-clause-terms c = c.loop-place.invariant.terms

pub returns-clause-takes : goal.returns-clause-takes
returns-clause-takes c = steps_all (Takes c.args.id) c.args.places.now c.loop-place.place-index (values c.args.map.now) (values c.loop-place.map) c.loop-place-test.false c.loop-place.invariant.steps
