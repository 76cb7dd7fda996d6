use Rattle.std.proofs.Common.{◌≡◌, IfOk, subst, rules}
use Rattle.index_lists.specs.declared.term.Term.{Term}
use Rattle.index_lists.specs.declared.term.Term.TheVariants.{TagValue}
use Rattle.index_lists.specs.Listing.{AreIdsOf}
use Rattle.index_lists.specs.Terms.{is_of}
use Rattle.series_index.proofs.ListedLemmas.{having_is}
use Rattle.series_index.proofs.test.having.Goals as goal

pub returns : goal.returns
returns c =
    let copied : IfOk c.to_vec.result (λ v. v.items ≡ c.ids.result.now) = search rules in
    having_is c.to_vec.result c.args.lists.now c.args.measurement.now c.args.key.now c.args.value c.ids.result.now c.requires
    (λ pairs holds. subst (λ (t : Term). AreIdsOf (is_of t) pairs c.ids.result.now) (λ i. TagValue (c.in_ok-carry.ensures i) (c.in_ok-carry-2.ensures i) c.args.value) (c.ids.ensures pairs holds)) copied
