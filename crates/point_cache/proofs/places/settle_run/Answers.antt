use Rattle.point_cache.proofs.LatestLemmas.{some_stays}
use Rattle.point_cache.proofs.places.settle_run.Goals as goal

pub returns-clause-settled : goal.returns-clause-settled
returns-clause-settled c = record {
  live = c.settle-result.ensures.live;
  values = c.settle-result.ensures.same;
  some = some_stays c.args.run.now.next c.settle-result.new.self.next c.settle-result.ensures.same;
  fewer = c.settle-result.ensures.shorter;
}
