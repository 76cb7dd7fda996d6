use Rattle.std.proofs.Common.{List, IfOk, subst}
use Rattle.index_lists.specs.Listing.{AreIdsOf}
use Rattle.index_lists.specs.Pairs.{Pair}
use Rattle.series_index.specs.Index.{HasContent, Index, is_match}
use Rattle.series_index.proofs.index.SeriesIndex.ids_of.Goals as goal

pub matching_ids-requires : goal.matching_ids-requires
matching_ids-requires c = let inv = c.self.invariant in (inv.pairs, inv.holds)

pub returns : goal.returns
returns c =
    subst (λ (x : Index). IfOk c.matching_ids.result (λ ids. (pairs : List Pair) → HasContent pairs x → AreIdsOf (is_match c.args.measurement.now c.args.tags.now) pairs ids.items)) c.self.view_is c.matching_ids.ensures
