use Rattle.std.proofs.Common.{◌≡◌, List, ◌++◌, ◌∷◌, [], sym, ap, ◌∙◌, subst}
use Rattle.manifest_log.specs.declared.change.Change.{Change}
use Rattle.manifest_log.specs.declared.change.Change.TheVariants.{AddSegment, NameSeries, SetFloor}
use Rattle.manifest_log.specs.Format.{IsWritable}
use Rattle.shard_state.specs.Creating.{first_changes}
use Rattle.shard_state.proofs.Naming.{first_writable}
use Rattle.shard_state.proofs.first_files.first_frame.Goals as goal

pub frame-requires : goal.frame-requires
frame-requires c =
    let is : c.new.result ≡ first_changes c.args.series c.args.segment =
    c.new.ensures ∙ c.in_ok-push-3.ensures.items
    ∙ ap (λ (l : List Change). l ++ SetFloor 0 ∷ []) (c.in_ok-push-2.ensures.items ∙ ap (λ (l : List Change). l ++ AddSegment c.args.segment ∷ []) (c.in_ok-push.ensures.items ∙ ap (λ (l : List Change). l ++ NameSeries c.args.series ∷ []) c.in_ok-changes.ensures.items)) in
    subst IsWritable (sym is) (first_writable c.args.series c.args.segment c.ranges.series.fits c.ranges.segment.fits)
