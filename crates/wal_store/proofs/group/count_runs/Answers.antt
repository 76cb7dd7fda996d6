use Rattle.std.proofs.Common.{length, ap, arith}
use Rattle.wal_store.proofs.GroupLemmas.{run_first, run_shorter}
use Rattle.wal_store.proofs.group.count_runs.Goals as goal

pub overflow_add-count : goal.overflow_add-count
overflow_add-count c =
    omega (arith, c.loop-run.invariant, c.requires, ap length (run_first c.in-Some.run'.series.now c.in-Some.run'.points.now c.in-Some.run'.behind.now c.loop-run.rest.now c.in-Some.ensures.run))

pub loop-run-preserved : goal.loop-run-preserved
loop-run-preserved c =
    omega (arith, c.loop-run.invariant, ap length (run_first c.in-Some.run'.series.now c.in-Some.run'.points.now c.in-Some.run'.behind.now c.loop-run.rest.now c.in-Some.ensures.run))

pub loop-run-smaller : goal.loop-run-smaller
loop-run-smaller c = run_shorter c.in-Some.run'.series.now c.in-Some.run'.points.now c.in-Some.run'.behind.now c.loop-run.rest.now c.in-Some.ensures.run
