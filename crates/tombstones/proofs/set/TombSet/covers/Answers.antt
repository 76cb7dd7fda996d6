use Rattle.tombstones.proofs.HidingLemmas.{test_is}
use Rattle.tombstones.proofs.set.TombSet.covers.Goals as goal

pub returns-clause-test : goal.returns-clause-test
returns-clause-test c =
    let ranges = c.ranges-2.ensures.covered c.args.time in
    let own = c.covers_in.ensures in
    test_is c.covers_in.result c.args.self.now c.args.key.now c.args.time (λ is. ranges.0 (own.0 is), λ hidden. own.1 (ranges.1 hidden))
