use Rattle.point_model.proofs.TagLemmas.{tags-read}
use Rattle.point_model.proofs.tags_are_read.Goals as goal

pub returns : goal.returns
returns c = tags-read
