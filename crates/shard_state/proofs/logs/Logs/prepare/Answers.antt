use Rattle.wal_store.proofs.RoomLemmas.{batch_writable}
use Rattle.shard_state.proofs.logs.Logs.prepare.Goals as goal

pub write_record-requires-clause-writable : goal.write_record-requires-clause-writable
write_record-requires-clause-writable g c = batch_writable c.args.client c.args.batch.now c.requires.writable
