use Rattle.std.proofs.Common.{sym, subst}
use Rattle.index_lists.specs.Listing.{Holds}
use Rattle.index_lists.specs.contracts.lists.Lists.{the_view}
use Rattle.index_lists.proofs.ReadyLemmas.{ids_told}
use Rattle.index_lists.proofs.lists.Lists.ids.Goals as goal

pub returns : goal.returns
returns c pairs holds = ids_told pairs (the_view c.self.inside) c.args.term.now c.ids_at.result.now c.ids_at.ensures (subst (Holds pairs) (sym c.self.view_is) holds)
