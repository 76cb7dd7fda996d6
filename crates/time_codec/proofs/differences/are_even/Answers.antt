use Rattle.time_codec.proofs.TimesLemmas.{even_more, even_all}
use Rattle.time_codec.proofs.differences.are_even.Goals as goal

pub loop-time-preserved : goal.loop-time-preserved
loop-time-preserved c =
    even_more c.loop-time.even c.apart.result c.args.difference c.args.later.now c.loop-time.time-index c.loop-time.before c.time-item.result _ c.loop-time-test.true c.time-item.is c.apart.ensures c.loop-time.invariant

pub returns : goal.returns
returns c = even_all c.loop-time.even c.args.difference c.args.later.now c.loop-time.time-index c.loop-time.before _ c.loop-time-test.false c.loop-time.invariant
