use Rattle.std.proofs.Common.{ap}
use Rattle.wal_store.specs.Segments.{Segments}
use Rattle.shard_state.proofs.Ending.{settles}
use Rattle.shard_state.proofs.logs.Logs.settle.Goals as goal

pub returns-clause-settles : goal.returns-clause-settles
returns-clause-settles g c = settles g.D.Disk c.args.self.now c.settle.new.disk c.settle.new.self c.settle.result c.settle.ensures.log (ap (λ (w : Segments). w.files) c.settle.ensures.same)
