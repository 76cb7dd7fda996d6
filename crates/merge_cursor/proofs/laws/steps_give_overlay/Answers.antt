use Rattle.merge_cursor.proofs.StepLemmas.{overlay_none, overlay_next, advanced_in_order}
use Rattle.merge_cursor.proofs.laws.steps_give_overlay.Goals as goal

pub returns : goal.returns
returns c = record { none = overlay_none; next = overlay_next; left = λ descending sources time order. advanced_in_order descending sources time order }
