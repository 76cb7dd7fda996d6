use Rattle.std.proofs.Common.{sym, ap, subst, arith}
use Rattle.series_index.specs.Index.{HasContent, Index, changes_of}
use Rattle.series_index.proofs.StagingLemmas.{none_left}
use Rattle.series_index.proofs.index.SeriesIndex.unstage.Goals as goal

pub invariant_of-self : goal.invariant_of-self
invariant_of-self c =
    let inv = c.self.invariant in
    let made = c.unstage_to.ensures.fewer in
    record {
      pairs = inv.pairs;
      holds = made.content inv.pairs inv.holds;
      ready = made.ready inv.ready;
      room = let had = inv.room in let none = c.unstage_to.ensures.left (omega arith) in omega (arith, had, none);
    }

pub returns-clause-staged : goal.returns-clause-staged
returns-clause-staged c = ap changes_of (none_left c.unstage_to.new.staged.items (c.unstage_to.ensures.left (omega arith)))

pub returns-clause-pending : goal.returns-clause-pending
returns-clause-pending c = ap (λ (x : Index). x.pending) c.self.view_is

pub returns-clause-content : goal.returns-clause-content
returns-clause-content c pairs holds = c.unstage_to.ensures.fewer.content pairs (subst (HasContent pairs) (sym c.self.view_is) holds)
