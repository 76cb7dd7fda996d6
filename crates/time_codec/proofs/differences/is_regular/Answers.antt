use Rattle.std.proofs.Common.{ap, sym, ◌∙◌}
use Rattle.time_codec.specs.Times.{all_same}
use Rattle.time_codec.proofs.differences.is_regular.Goals as goal

pub returns : goal.returns
returns c = c.are_all.ensures ∙ ap all_same (sym c.in-Some.ensures.cases.0)
