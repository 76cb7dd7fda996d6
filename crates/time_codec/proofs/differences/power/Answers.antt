use Rattle.time_codec.proofs.ScaleLemmas.{power_is, power_some}
use Rattle.time_codec.proofs.differences.power.Goals as goal

pub returns-clause-value : goal.returns-clause-value
returns-clause-value c = power_is c.args.exponent c.requires

pub returns-clause-some : goal.returns-clause-some
returns-clause-some c = power_some c.args.exponent c.requires
