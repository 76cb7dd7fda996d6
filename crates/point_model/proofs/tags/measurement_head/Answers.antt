use Rattle.std.proofs.Common.{◌∙◌, ℕ, List, ap, false}
use Rattle.point_model.specs.Measurements.{measurement_head}
use Rattle.point_model.proofs.TagLemmas.{front-head}
use Rattle.point_model.proofs.tags.measurement_head.Goals as goal

pub returns : goal.returns
returns c = c.cut.ensures.front ∙ front-head false c.as_bytes.result.now ∙ ap (λ (t : List ℕ). measurement_head t) (c.as_bytes.ensures.value ∙ c.text.ensures.text)
