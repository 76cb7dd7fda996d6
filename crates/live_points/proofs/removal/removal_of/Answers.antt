-- The removal is made of what is known.
use Rattle.live_points.proofs.LeftLemmas.{is_removal}
use Rattle.live_points.proofs.removal.removal_of.Goals as goal

pub returns : goal.returns
returns c =
    is_removal c.args.cache.now.runs c.args.deletion.now c.args.keys.now c.requires.0 c.requires.1 c.in_ok-samples.ensures.ordered _
    c.heading_of.ensures.name c.in_ok-heading.ensures.heading c.in_ok-samples.ensures.samples c.in_ok-keys.ensures.met c.in_ok-keys.ensures.room
