-- The text of a series without tags is that of its measurement.
use Rattle.std.proofs.Common.{◌∙◌, ap}
use Rattle.tsdb_types.specs.Series.{measurement_text}
use Rattle.store_trait.proofs.HeadLemmas.{untagged_text}
use Rattle.store_trait.proofs.names.untagged.Goals as goal

pub returns-in-Ok-clause-text : goal.returns-in-Ok-clause-text
returns-in-Ok-clause-text c =
    untagged_text c.in_ok-carry.field-0 c.in-Ok.series c.new-2.result c.in-Ok.ensures.ok (c.new-2.ensures ∙ c.new.ensures.items) ∙ ap measurement_text c.in_ok-carry.ensures
