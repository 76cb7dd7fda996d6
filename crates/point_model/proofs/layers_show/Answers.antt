use Rattle.point_model.proofs.EffectLemmas.{overlay-append, overlay_replaced, overlay_spared}
use Rattle.point_model.proofs.layers_show.Goals as goal

pub returns : goal.returns
returns c = record { composed = overlay-append; replaced = overlay_replaced; spared = overlay_spared }
