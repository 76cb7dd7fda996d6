-- The head of a series without tags is the whole of its text.
use Rattle.std.proofs.Common.{◌∙◌, ap}
use Rattle.point_model.specs.Measurements.{measurement_head}
use Rattle.store_trait.proofs.HeadLemmas.{head_of_measurement}
use Rattle.store_trait.proofs.names.heading_of.Goals as goal

pub returns-clause-heading : goal.returns-clause-heading
returns-clause-heading c =
    c.in_ok-read.ensures ∙ ap measurement_head c.in_ok-untagged.ensures.text ∙ head_of_measurement c.args.measurement.now c.untagged.ensures.name
