use Rattle.std.proofs.Common.{refl}
use Rattle.simple8b.specs.Words.{count_of}
use Rattle.simple8b.proofs.selector.held.Goals as goal

pub returns-clause-count : goal.returns-clause-count
unfolding count_of
returns-clause-count c = refl
