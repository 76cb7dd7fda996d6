use Rattle.std.proofs.Common.{◌∙◌, sym, subst}
use Rattle.std.proofs.lemmas.Map.Keys.{non_decreasing_from_sorted}
use Rattle.index_lists.specs.declared.term.Term.{Term}
use Rattle.index_lists.specs.declared.term.Term.TheVariants.{Field}
use Rattle.index_lists.specs.Listing.{AreIdsOf}
use Rattle.index_lists.specs.Terms.{is_of}
use Rattle.series_index.specs.Index.{HasContent}
use Rattle.series_index.proofs.ListedLemmas.{has_pair, there_is}
use Rattle.series_index.proofs.index.SeriesIndex.has.Goals as goal

pub is_among-requires : goal.is_among-requires
is_among-requires c =
    let inv = c.self.invariant in
    non_decreasing_from_sorted c.ids.result.now (c.ids.ensures inv.pairs inv.holds).ascending

pub returns : goal.returns
returns c pairs holds agree =
    let are =
    subst (λ (t : Term). AreIdsOf (is_of t) pairs c.ids.result.now) (λ i. Field (c.in_ok-measurement.ensures i) (c.in_ok-carry.ensures i)) (c.ids.ensures pairs (subst (HasContent pairs) (sym c.self.view_is) holds)) in
    there_is pairs (record { id = c.args.id; series = c.args.series.now; field = c.args.field.now }) c.is_among.result agree
    (c.is_among.ensures ∙ are.has c.args.id ∙ has_pair c.args.id c.args.series.now c.args.field.now pairs agree)
