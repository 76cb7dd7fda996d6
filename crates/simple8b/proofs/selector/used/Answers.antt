use Rattle.simple8b.proofs.Tables.{used_is}
use Rattle.simple8b.proofs.selector.used.Goals as goal

pub returns : goal.returns
returns c = used_is c.args.selector c.requires
