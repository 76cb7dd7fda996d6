use Rattle.merge_cursor.proofs.NestLemmas.{overlay_nests}
use Rattle.merge_cursor.proofs.laws.overlays_nest.Goals as goal

pub returns : goal.returns
returns c = overlay_nests
