-- The key keeps a point and is offered, or it keeps none.
use Rattle.std.proofs.Common.{◌∙◌, sym}
use Rattle.store_trait.proofs.ResultLemmas.{on_ok_map}
use Rattle.live_points.proofs.TakingLemmas.{none_offered, one_offered}
use Rattle.live_points.proofs.removal.offer_left.Goals as goal

pub returns-then-not-branch : goal.returns-then-not-branch
returns-then-not-branch c =
    none_offered c.args.cache.now.runs c.args.deletion.now (c.args.series.now, c.args.field.now) c.args.samples.now (sym c.in_ok-is_left.ensures ∙ c.if-not-branch.true)

pub returns : goal.returns
returns c =
    on_ok_map c.offer.result
    (λ set. one_offered c.args.cache.now.runs c.args.deletion.now (c.args.series.now, c.args.field.now) c.args.samples.now c.offer.new.samples (sym c.in_ok-is_left.ensures ∙ c.if-not-branch.false) set)
    c.offer.ensures
