use Rattle.wal_store.proofs.RoomLemmas.{batch_writable, delete_record_long, deletion_writable, write_record_long}
use Rattle.wal_store.proofs.laws.records_fit.Goals as goal

pub returns-clause-write : goal.returns-clause-write
returns-clause-write c = write_record_long

pub returns-clause-delete : goal.returns-clause-delete
returns-clause-delete c = delete_record_long

pub returns-clause-batch : goal.returns-clause-batch
returns-clause-batch c = batch_writable

pub returns-clause-deletion : goal.returns-clause-deletion
returns-clause-deletion c = deletion_writable
