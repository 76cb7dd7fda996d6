use Rattle.merge_cursor.proofs.OverlayLemmas.{is_overlay, one_overlay, overlay_tested}
use Rattle.merge_cursor.proofs.TurnLemmas.{overlay_turned}
use Rattle.merge_cursor.proofs.laws.one_overlay.Goals as goal

pub returns : goal.returns
returns c = record { is = is_overlay; one = one_overlay; tested = overlay_tested; turned = overlay_turned }
