use Rattle.wal_store.proofs.EntryLemmas.{same_entry}
use Rattle.wal_store.proofs.RoomLemmas.{read_is_writable}
use Rattle.wal_store.proofs.entry.one_entry.Goals as goal

pub returns-clause-one : goal.returns-clause-one
returns-clause-one c = same_entry

pub returns-clause-writable : goal.returns-clause-writable
returns-clause-writable c = read_is_writable
