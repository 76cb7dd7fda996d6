use Rattle.std.proofs.Common.{subst}
use Rattle.shard_state.specs.Calls.{Closes}
use Rattle.shard_state.specs.declared.logs.Logs.{Logs}
use Rattle.engine_session.proofs.ServedLemmas.{serves_none}
use Rattle.engine_session.proofs.serving.close_unserved.Goals as goal

pub returns : goal.returns
returns g c = record {
  serves = serves_none g.D.Disk c.args.shard c.close-disk.result.0 c.number-number.result c.close-disk.result.1 c.number-number.ensures
      (subst (λ (l : Logs _). Closes g.D.Disk l c.close-disk.result.0 c.close-disk.result.1) c.into_logs.ensures c.close-disk.ensures);
}
