use Rattle.tombstones.specs.Raw.{tomb_of}
use Rattle.tombstones.proofs.ReadLemmas.{one_read, shorter}
use Rattle.tombstones.proofs.read.read_tombs.Goals as goal

pub loop-rest-smaller : goal.loop-rest-smaller
loop-rest-smaller c = shorter c.loop-rest.rest.now c.in-Some.tomb.behind.now (tomb_of c.in-Some.tomb) c.in-Some.ensures.found

pub loop-rest-preserved : goal.loop-rest-preserved
loop-rest-preserved c =
    one_read c.args.tombs.now c.loop-rest.rest.now c.in-Some.tomb.behind.now c.loop-rest.set c.add_within.new.set (tomb_of c.in-Some.tomb) c.loop-rest.invariant c.in-Some.ensures.found c.in-Some.ensures.writable c.in_ok-add_within.ensures
