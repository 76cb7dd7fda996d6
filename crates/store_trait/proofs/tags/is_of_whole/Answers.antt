use Rattle.std.proofs.Common.{◌≡◌, ◌∙◌}
use Rattle.store_trait.proofs.TagLemmas.{of_whole}
use Rattle.store_trait.proofs.tags.is_of_whole.Goals as goal

pub returns : goal.returns
returns c = c.is_of.ensures ∙ of_whole c.args.need.now.measurement c.args.series.now
