use Rattle.std.specs.Prelude.{IsTrue}
use Rattle.tsm_bench.proofs.RunLemmas.{at_first, run_begins, run_may, run_more}
use Rattle.tsm_bench.proofs.writing.push_points.Goals as goal

pub loop-time-init : goal.loop-time-init
loop-time-init g c = λ most last has above.
    run_begins (IsTrue g.W.Writer.tells) g.W.Writer.content g.W.Writer.stage c.args.writer.now c.args.key.now most last c.args.points.now has above c.requires.run

pub push-requires-after_bounds : goal.push-requires-after_bounds
push-requires-after_bounds g c κs within =
    let had = c.requires.before in
    let run = at_first (IsTrue g.W.Writer.tells) g.W.Writer.content g.W.Writer.stage c.loop-time.writer c.args.key.now had.0 c.args.points.now c.loop-time.rest.now c.in-Some.behind.now c.in-Some.field-0-0.now c.in-Some.ensures.cases.0 (c.loop-time.invariant had.0 had.1 had.2 had.3) in
    (run.pushed, run.holds, run_may (IsTrue g.W.Writer.tells) g.W.Writer.content g.W.Writer.stage c.loop-time.writer c.args.key.now had.0 c.args.points.now c.in-Some.behind.now c.in-Some.field-0-0.now run c.requires.fits c.requires.mark had.4)

pub loop-time-preserved : goal.loop-time-preserved
loop-time-preserved g c = λ most last has above.
    let run = at_first (IsTrue g.W.Writer.tells) g.W.Writer.content g.W.Writer.stage c.loop-time.writer c.args.key.now most c.args.points.now c.loop-time.rest.now c.in-Some.behind.now c.in-Some.field-0-0.now c.in-Some.ensures.cases.0 (c.loop-time.invariant most last has above) in
    run_more (IsTrue g.W.Writer.tells) g.W.Writer.content g.W.Writer.stage c.loop-time.writer c.push.new.self c.args.key.now most c.args.points.now c.in-Some.behind.now c.in-Some.field-0-0.now run (c.in_ok-push.ensures.ok run.pushed run.holds)
