use Rattle.std.proofs.Common.{refl}
use Rattle.simple8b.specs.Words.{bits_of}
use Rattle.simple8b.proofs.Tables.{used_most}
use Rattle.simple8b.proofs.selector.width.Goals as goal

pub returns-clause-bits : goal.returns-clause-bits
unfolding bits_of
returns-clause-bits c = refl

pub returns-clause-within : goal.returns-clause-within
unfolding bits_of
returns-clause-within c = used_most c.args.selector c.requires
