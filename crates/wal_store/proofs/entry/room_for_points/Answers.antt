use Rattle.wal_store.proofs.GroupLemmas.{run_shorter}
use Rattle.wal_store.proofs.entry.room_for_points.Goals as goal

pub loop-run-smaller : goal.loop-run-smaller
loop-run-smaller c = run_shorter c.in-Some.run'.series.now c.in-Some.run'.points.now c.in-Some.run'.behind.now c.loop-run.rest.now c.in-Some.ensures.run
