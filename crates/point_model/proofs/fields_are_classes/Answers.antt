use Rattle.point_model.proofs.FieldLemmas.{classes}
use Rattle.point_model.proofs.fields_are_classes.Goals as goal

pub returns : goal.returns
returns c = classes
