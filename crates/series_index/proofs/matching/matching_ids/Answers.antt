use Rattle.std.proofs.Common.{subst}
use Rattle.index_lists.specs.declared.term.Term.{Term}
use Rattle.index_lists.specs.declared.term.Term.TheVariants.{Measurement}
use Rattle.index_lists.specs.Listing.{AreIdsOf}
use Rattle.index_lists.specs.Terms.{is_of}
use Rattle.series_index.specs.Matching.{series_in}
use Rattle.series_index.proofs.ListedLemmas.{match_is, told_by}
use Rattle.series_index.proofs.matching.matching_ids.Goals as goal

pub evaluated-requires : goal.evaluated-requires
evaluated-requires c =
    let asked = c.requires in (
      series_in asked.0,
      told_by asked.0 c.args.lists.now c.args.measurement.now c.ids.result.now asked.1
          (subst (λ (t : Term). AreIdsOf (is_of t) asked.0 c.ids.result.now) (λ i. Measurement (c.in_ok-carry.ensures i)) (c.ids.ensures asked.0 asked.1)),
    )

pub returns : goal.returns
returns c =
    match_is c.evaluated.result c.args.lists.now c.args.measurement.now c.ids.result.now c.args.tags.now
    (λ pairs holds. subst (λ (t : Term). AreIdsOf (is_of t) pairs c.ids.result.now) (λ i. Measurement (c.in_ok-carry.ensures i)) (c.ids.ensures pairs holds)) c.evaluated.ensures
