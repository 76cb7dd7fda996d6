use Rattle.std.proofs.Common.{refl}
use Rattle.shard_state.proofs.first_files.create.Goals as goal

pub returns-in-Ok-clause-ready : goal.returns-in-Ok-clause-ready
returns-in-Ok-clause-ready g c = c.in-Ok.ensures.ready c.args.alloc

pub returns-in-Ok-clause-first : goal.returns-in-Ok-clause-first
returns-in-Ok-clause-first g c = (c.in-Ok.ensures.series, refl)
