use Rattle.point_model.proofs.EffectLemmas.{effects-append, value_after, value_after_entry}
use Rattle.point_model.proofs.effects_are_told.Goals as goal

pub returns : goal.returns
returns c = record { entry = value_after_entry; history = value_after; composed = effects-append }
