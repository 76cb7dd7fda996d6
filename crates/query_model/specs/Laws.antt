-- Laws of what a SELECT answers.
use Rattle.std.specs.Prelude.{◌≡◌, ℕ, Bool}
use Rattle.point_model.specs.Points.{Points}
use Rattle.query_model.specs.declared.select.Select.{Select}
use Rattle.query_model.specs.Refusals.{select_refusal}

-- whether a SELECT is refused, and for what, doesn't depend on its limits and its direction
abbrev pub LimitsHideNoRefusal : Type 0
LimitsHideNoRefusal =
    (points : Points) (select : Select) (descending : Bool) (limit offset slimit soffset : ℕ)
    → select_refusal (record select { descending = descending; limit = limit; offset = offset; slimit = slimit; soffset = soffset }) points
    ≡ select_refusal select points
