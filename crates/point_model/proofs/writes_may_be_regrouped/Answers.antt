use Rattle.point_model.proofs.PointLemmas.{regrouped}
use Rattle.point_model.proofs.writes_may_be_regrouped.Goals as goal

pub returns : goal.returns
returns c = regrouped
