use Rattle.value_codec.proofs.HalfLemmas.{half_at}
use Rattle.value_codec.proofs.halves.half.Goals as goal

pub returns-clause-size : goal.returns-clause-size
returns-clause-size c = (half_at c.args.bits _ c.requires).size

pub returns-clause-kind : goal.returns-clause-kind
returns-clause-kind c = (half_at c.args.bits _ c.requires).kind

pub returns-clause-spelled : goal.returns-clause-spelled
returns-clause-spelled c = (half_at c.args.bits _ c.requires).spelled
