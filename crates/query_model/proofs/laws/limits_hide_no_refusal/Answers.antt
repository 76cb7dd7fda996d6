use Rattle.std.proofs.Common.{refl}
use Rattle.query_model.proofs.laws.limits_hide_no_refusal.Goals as goal

pub returns : goal.returns
returns c = λ points select descending limit offset slimit soffset. refl
