-- The points are in order, of one kind in each field, and at moments.
use Rattle.std.proofs.Common.{subst, All}
use Rattle.tsdb_types.specs.Moments.{IsMoment}
use Rattle.point_model.specs.Acceptance.{IsSound}
use Rattle.store_trait.specs.Told.{Told, state_now}
use Rattle.store_trait.proofs.AcceptLemmas.{in_order}
use Rattle.store_trait.proofs.ViewLemmas.{sound, timed}
use Rattle.store_trait.proofs.plain.PlainStore.look.Goals as goal

pub returns-clause-sound : goal.returns-clause-sound
returns-clause-sound c =
    subst (λ (t : Told). IsSound (state_now t).points) c.self.view_is
    (sound c.self.inside.slots c.self.inside.samples _ c.self.invariant.fits (in_order c.self.inside.client c.self.inside.notes.items))

pub returns-clause-timed : goal.returns-clause-timed
returns-clause-timed c =
    subst (λ (t : Told). All (λ point. IsMoment point.0.time) (state_now t).points) c.self.view_is
    (timed c.self.inside.slots c.self.inside.samples _ c.self.invariant.fits (in_order c.self.inside.client c.self.inside.notes.items))
