-- The samples find the conflicts with the points that the store tells.
use Rattle.std.proofs.Common.{◌∙◌, ap}
use Rattle.std.proofs.lemmas.Result.{IfOk-weaker}
use Rattle.point_model.specs.Acceptance.{conflict}
use Rattle.point_model.specs.Histories.{after}
use Rattle.point_model.specs.Points.{no_points}
use Rattle.store_trait.specs.Told.{Told}
use Rattle.store_trait.specs.Notes.{entries_of}
use Rattle.store_trait.proofs.AcceptLemmas.{in_order}
use Rattle.store_trait.proofs.ConflictLemmas.{conflict_found}
use Rattle.store_trait.proofs.plain.PlainStore.conflict.Goals as goal

pub returns : goal.returns
returns c =
    IfOk-weaker c.find_conflict.result _ _
    (λ found is.
    is ∙ conflict_found c.self.inside.slots c.self.inside.samples (after no_points (entries_of c.self.inside.client c.self.inside.notes.items)) c.self.invariant.fits
    (in_order c.self.inside.client c.self.inside.notes.items) c.args.points.now
    ∙ ap (λ (t : Told). conflict (after t.start.points t.history) c.args.points.now) c.self.view_is)
    c.find_conflict.ensures
