use Rattle.std.proofs.Common.{refl, arith, to_z, w64}
use Rattle.tsdb_types.specs.declared.value.Value.TheVariants.{Int}
use Rattle.tsm_bench.proofs.RunLemmas.{longer}
use Rattle.tsm_bench.proofs.points.counter.Goals as goal

pub loop-preserved : goal.loop-preserved
loop-preserved c =
    let made = longer c.loop.points.items c.push.new.self.items c.loop.time c.in_ok-time-2.time (Int (to_z w64 c.loop.value-bits)) refl c.in_ok-push.ensures.items c.loop.invariant.run c.loop.invariant.ends c.in_ok-time-2.ensures in
    record { run = made.run; count = (let more = c.in_ok-push.ensures.len in let had = c.loop.invariant.count in omega (arith, more, had)); ends = made.ends }
