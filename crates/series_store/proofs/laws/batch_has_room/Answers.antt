use Rattle.series_store.proofs.BatchLemmas.{series_room, series_short}
use Rattle.series_store.proofs.laws.batch_has_room.Goals as goal

pub returns-clause-room : goal.returns-clause-room
returns-clause-room c = series_room

pub returns-clause-short : goal.returns-clause-short
returns-clause-short c = series_short
