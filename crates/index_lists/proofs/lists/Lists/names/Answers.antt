use Rattle.std.proofs.Common.{ℕ, List, nat_eq, refl, sym, subst}
use Rattle.std.specs.Cmp.Lexicographic.{pointwise}
use Rattle.std.specs.List.Sorted.{IsPermutation}
use Rattle.std.proofs.lemmas.List.Filters.{dedup_is}
use Rattle.index_lists.specs.Listing.{Holds}
use Rattle.index_lists.specs.contracts.lists.Lists.{the_view}
use Rattle.index_lists.proofs.NameLemmas.{listing_names}
use Rattle.index_lists.proofs.lists.Lists.names.Goals as goal

pub returns : goal.returns
returns c pairs holds =
    let same = subst (λ (l : List (List ℕ)). IsPermutation l c.sort_unstable.new.self.items) c.in_ok-names.ensures c.sort_unstable.ensures.permutation in
    listing_names c.args.heading.now pairs c.self.inside.map.entries (the_view c.self.inside) c.sort_unstable.new.self.items c.dedup.new.self.items (subst (Holds pairs) (sym c.self.view_is) holds) refl refl same
    c.sort_unstable.ensures.sorted (dedup_is (pointwise nat_eq) c.sort_unstable.new.self.items c.dedup.new.self.items c.dedup.ensures.filtered)
