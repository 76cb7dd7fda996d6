use Rattle.point_view.proofs.SeenLemmas
use Rattle.point_view.proofs.laws.views_see.Goals as goal

pub returns : goal.returns
returns c = SeenLemmas.views_see
