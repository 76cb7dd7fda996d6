use Rattle.std.proofs.Common.{refl, ◌∙◌}
use Rattle.indexmap.specs.IndexMap.{values}
use Rattle.index_lists.specs.Listing.{Puts}
use Rattle.index_lists.proofs.PlaceLemmas.{room_first, room_rest}
use Rattle.index_lists.proofs.StepLemmas.{steps_all, steps_more, steps_none}
use Rattle.index_lists.proofs.places.put_all.Goals as goal

pub loop-place-init : goal.loop-place-init
loop-place-init c = record { terms = refl; steps = steps_none (Puts c.args.id) (values c.args.map.now); room = c.requires }

pub put_at-requires : goal.put_at-requires
put_at-requires c = room_first c.args.places.now c.loop-place.place-index (values c.loop-place.map) c.loop-place-test.true c.loop-place.invariant.room

pub loop-place-preserved : goal.loop-place-preserved
loop-place-preserved c =
    let inv = c.loop-place.invariant in
    record {
      terms = c.put_at.ensures.terms ∙ inv.terms;
      steps = steps_more (Puts c.args.id) c.args.places.now c.loop-place.place-index (values c.args.map.now) (values c.loop-place.map) (values c.put_at.new.map) c.loop-place-test.true inv.steps c.put_at.ensures.puts;
      room = room_rest c.args.id c.args.places.now c.loop-place.place-index (values c.loop-place.map) (values c.put_at.new.map) c.loop-place-test.true inv.room c.put_at.ensures.puts;
    }

pub returns-clause-terms : goal.returns-clause-terms
returns-clause-terms c = c.loop-place.invariant.terms

pub returns-clause-puts : goal.returns-clause-puts
returns-clause-puts c = steps_all (Puts c.args.id) c.args.places.now c.loop-place.place-index (values c.args.map.now) (values c.loop-place.map) c.loop-place-test.false c.loop-place.invariant.steps
