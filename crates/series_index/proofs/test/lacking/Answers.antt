use Rattle.std.proofs.Common.{subst}
use Rattle.std.proofs.lemmas.Map.Keys.{non_decreasing_from_sorted}
use Rattle.index_lists.specs.declared.term.Term.{Term}
use Rattle.index_lists.specs.declared.term.Term.TheVariants.{TagKey}
use Rattle.index_lists.specs.Listing.{AreIdsOf}
use Rattle.index_lists.specs.Terms.{is_of}
use Rattle.series_index.proofs.ListedLemmas.{lacking_is}
use Rattle.series_index.proofs.test.lacking.Goals as goal

pub without-requires : goal.without-requires
without-requires c =
    let told = c.requires.1 in
    non_decreasing_from_sorted c.ids.result.now (c.ids.ensures told.pairs told.holds).ascending

pub returns : goal.returns
returns c =
    lacking_is c.without.result c.args.lists.now c.args.measurement.now c.args.all.now c.args.key.now c.ids.result.now
    (λ pairs holds. subst (λ (t : Term). AreIdsOf (is_of t) pairs c.ids.result.now) (λ i. TagKey (c.in_ok-carry.ensures i) (c.in_ok-carry-2.ensures i)) (c.ids.ensures pairs holds)) c.without.ensures
