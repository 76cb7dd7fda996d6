use Rattle.std.proofs.Common.{◌≡◌, pos, arith, ◌+◌, ◌*◌, ◌<◌}
use Rattle.std.specs.Prelude.{IsTrue}
use Rattle.tsm_file.proofs.TriedLemmas.{run_may, run_more, time_of}
use Rattle.file_tests.proofs.writing.push_run.Goals as goal

pub push-requires-after_bounds : goal.push-requires-after_bounds
push-requires-after_bounds g c κs within =
    let had = c.requires.before in
    let run = c.loop-n.invariant had.0 had.1 had.2 had.3 in
    let small : c.loop-n.n < 65536 = omega (arith, c.loop-n-test.true, c.ranges.count.fits) in
    let time : c.in-Some.time ≡ pos (10 * c.loop-n.n + 10) = time_of c.loop-n.n c.from.result c.from-in-loop-n.result c.in-Some.time small c.in-Some.ensures.1 c.from-in-loop-n.ensures c.from.ensures in
    (run.pushed, run.holds, run_may (IsTrue g.W.Writer.tells) g.W.Writer.content g.W.Writer.stage c.loop-n.writer c.args.key.now had.0 c.loop-n.n had.1 c.in-Some.time run had.3 c.requires.fits c.requires.mark had.4 small time)

pub loop-n-preserved : goal.loop-n-preserved
loop-n-preserved g c = λ most last has above.
    let run = c.loop-n.invariant most last has above in
    let small : c.loop-n.n < 65536 = omega (arith, c.loop-n-test.true, c.ranges.count.fits) in
    let time : c.in-Some.time ≡ pos (10 * c.loop-n.n + 10) = time_of c.loop-n.n c.from.result c.from-in-loop-n.result c.in-Some.time small c.in-Some.ensures.1 c.from-in-loop-n.ensures c.from.ensures in
    run_more (IsTrue g.W.Writer.tells) g.W.Writer.content g.W.Writer.stage c.loop-n.writer c.push.new.self c.args.key.now most c.loop-n.n last c.in-Some.time run time (c.in_ok-push.ensures.ok run.pushed run.holds)
