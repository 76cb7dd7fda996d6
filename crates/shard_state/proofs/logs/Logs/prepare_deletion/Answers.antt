use Rattle.wal_store.proofs.RoomLemmas.{deletion_writable}
use Rattle.shard_state.proofs.logs.Logs.prepare_deletion.Goals as goal

pub delete_record-requires-clause-writable : goal.delete_record-requires-clause-writable
delete_record-requires-clause-writable g c = deletion_writable c.args.client c.args.deletion.now c.requires.loggable
