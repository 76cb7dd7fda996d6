use Rattle.std.proofs.Common.{arith}
use Rattle.wal_store.specs.Runs.{runs_of}
use Rattle.wal_store.proofs.GroupLemmas.{few_groups, run_few, run_short, run_shorter, puts_one, are_groups, puts_all}
use Rattle.wal_store.proofs.group.put_groups.Goals as goal

pub count_runs-requires : goal.count_runs-requires
count_runs-requires c = omega (arith, few_groups (runs_of c.args.points.now), c.requires.few)

pub put_group-requires-clause-short : goal.put_group-requires-clause-short
put_group-requires-clause-short c =
    run_short c.args.points.now c.put_u32.new.out.items c.loop-run.out.items c.loop-run.rest.now c.in-Some.run'.points.now c.in-Some.run'.behind.now c.in-Some.run'.series.now c.loop-run.invariant c.in-Some.ensures.run

pub put_group-requires-clause-few : goal.put_group-requires-clause-few
put_group-requires-clause-few c =
    run_few c.args.points.now c.put_u32.new.out.items c.loop-run.out.items c.loop-run.rest.now c.in-Some.run'.points.now c.in-Some.run'.behind.now c.in-Some.run'.series.now c.loop-run.invariant c.in-Some.ensures.run c.requires.few

pub loop-run-preserved : goal.loop-run-preserved
loop-run-preserved c =
    puts_one c.args.points.now c.put_u32.new.out.items c.loop-run.out.items c.put_group.new.out.items c.loop-run.rest.now c.in-Some.run'.points.now c.in-Some.run'.behind.now c.in-Some.run'.series.now c.loop-run.invariant c.in-Some.ensures.run
    c.in_ok-put_group.ensures.ok c.in_ok-put_group.ensures.group

pub loop-run-smaller : goal.loop-run-smaller
loop-run-smaller c = run_shorter c.in-Some.run'.series.now c.in-Some.run'.points.now c.in-Some.run'.behind.now c.loop-run.rest.now c.in-Some.ensures.run

pub returns-clause-ok : goal.returns-clause-ok
returns-clause-ok c =
    puts_all c.args.points.now c.args.out.now.items c.put_u32.new.out.items c.loop-run.out.items c.count_runs.result c.loop-run.rest.now c.loop-run.invariant c.in_default.ensures.none c.in_ok-put_u32.ensures.ok c.count_runs.ensures

pub returns-clause-groups : goal.returns-clause-groups
returns-clause-groups c = are_groups c.args.points.now c.put_u32.new.out.items c.loop-run.out.items c.loop-run.rest.now c.loop-run.invariant c.in_default.ensures.none c.requires.some c.requires.few
