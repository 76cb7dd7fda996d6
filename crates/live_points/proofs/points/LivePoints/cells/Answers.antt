-- The points of the cache are as many as those that they stand for.
use Rattle.std.proofs.Common.{◌∙◌, ap, sym, length}
use Rattle.live_points.specs.Live.{Live}
use Rattle.live_points.proofs.HeldLemmas.{held_count}
use Rattle.live_points.proofs.KnownLemmas.{cuts}
use Rattle.live_points.proofs.points.LivePoints.cells.Goals as goal

pub returns : goal.returns
returns c =
    let holds = c.self.invariant.0 in
    c.points.ensures
    ∙ sym (held_count c.self.inside.cache.runs (cuts c.self.inside.cache.runs c.self.inside.keys c.self.inside.samples holds) holds.are_runs.each holds.are_runs.apart)
    ∙ ap (λ (live : Live). length live.points) c.self.view_is
