use Rattle.std.proofs.Common.{◌∙◌}
use Rattle.shard_state.proofs.Creating.{Empty, are_first, are_new, begun_readers, crash_begin, crash_last, crash_make}
use Rattle.shard_state.proofs.Leaving.{leaves_then}
use Rattle.shard_state.proofs.first_files.make_files.Goals as goal

pub returns-in_err-manifest-clause-crash : goal.returns-in_err-manifest-clause-crash
returns-in_err-manifest-clause-crash g c =
    let laws = g.met.D.Disk g.world.𝓛 g.world.𝓜 g.world.𝓡 ((λ s x. x), (λ x. x), (λ x. x), (λ x. x)) in
    λ told blank images. crash_begin g.D.Disk laws.numbered laws.keeps_adopted c.args.disk.now c.begin.new.disk c.begin.ensures.crash told images

pub returns-in_err-series-clause-crash : goal.returns-in_err-series-clause-crash
returns-in_err-series-clause-crash g c =
    let laws = g.met.D.Disk g.world.𝓛 g.world.𝓜 g.world.𝓡 ((λ s x. x), (λ x. x), (λ x. x), (λ x. x)) in
    λ told blank images. leaves_then Empty _ _ _ (crash_begin g.D.Disk laws.numbered laws.keeps_adopted c.args.disk.now c.begin.new.disk c.begin.ensures.crash told images)
    (crash_make g.D.Disk laws.numbered laws.keeps_adopted c.args.disk.now c.begin.new.disk c.in_ok-manifest.manifest c.in_ok-manifest.ensures.ok told blank c.make.new.disk (c.make.ensures.crash told))

pub returns-in_err-segment-clause-crash : goal.returns-in_err-segment-clause-crash
returns-in_err-segment-clause-crash g c =
    let laws = g.met.D.Disk g.world.𝓛 g.world.𝓜 g.world.𝓡 ((λ s x. x), (λ x. x), (λ x. x), (λ x. x)) in
    λ told blank images. leaves_then Empty _ _ _
    (leaves_then Empty _ _ _ (crash_begin g.D.Disk laws.numbered laws.keeps_adopted c.args.disk.now c.begin.new.disk c.begin.ensures.crash told images)
    (crash_make g.D.Disk laws.numbered laws.keeps_adopted c.args.disk.now c.begin.new.disk c.in_ok-manifest.manifest c.in_ok-manifest.ensures.ok told blank c.make.new.disk (c.make.ensures.crash told)))
    (crash_last g.D.Disk laws.numbered laws.keeps_adopted c.args.disk.now c.begin.new.disk c.make.new.disk c.make-2.new.disk c.in_ok-manifest.manifest c.in_ok-series.series c.in_ok-manifest.ensures.ok c.in_ok-series.ensures.ok told blank
    (c.make.ensures.crash told) (c.make-2.ensures.crash told))

pub returns-clause-first : goal.returns-clause-first
returns-clause-first g c =
    let laws = g.met.D.Disk g.world.𝓛 g.world.𝓜 g.world.𝓡 ((λ s x. x), (λ x. x), (λ x. x), (λ x. x)) in
    are_first g.D.Disk laws.numbered laws.keeps_adopted c.args.disk.now c.begin.new.disk c.make.new.disk c.make-2.new.disk c.in_ok-manifest.manifest c.in_ok-series.series c.in_ok-segment.segment c.in_ok-manifest.ensures.ok
    c.in_ok-series.ensures.ok c.in_ok-segment.ensures.ok c.make.ensures.crash c.make-2.ensures.crash

pub returns-clause-new : goal.returns-clause-new
returns-clause-new g c =
    let laws = g.met.D.Disk g.world.𝓛 g.world.𝓜 g.world.𝓡 ((λ s x. x), (λ x. x), (λ x. x), (λ x. x)) in
    are_new g.D.Disk laws.numbered laws.keeps_adopted c.args.disk.now c.begin.new.disk c.make.new.disk c.make-2.new.disk c.in_ok-manifest.manifest c.in_ok-series.series c.in_ok-segment.segment c.in_ok-manifest.ensures.ok
    c.in_ok-series.ensures.ok c.in_ok-segment.ensures.ok c.make.ensures.crash c.make-2.ensures.crash

pub returns-clause-crash : goal.returns-clause-crash
returns-clause-crash g c =
    let laws = g.met.D.Disk g.world.𝓛 g.world.𝓜 g.world.𝓡 ((λ s x. x), (λ x. x), (λ x. x), (λ x. x)) in
    λ told blank images. leaves_then Empty _ _ _
    (leaves_then Empty _ _ _ (crash_begin g.D.Disk laws.numbered laws.keeps_adopted c.args.disk.now c.begin.new.disk c.begin.ensures.crash told images)
    (crash_make g.D.Disk laws.numbered laws.keeps_adopted c.args.disk.now c.begin.new.disk c.in_ok-manifest.manifest c.in_ok-manifest.ensures.ok told blank c.make.new.disk (c.make.ensures.crash told)))
    (crash_last g.D.Disk laws.numbered laws.keeps_adopted c.args.disk.now c.begin.new.disk c.make.new.disk c.make-2.new.disk c.in_ok-manifest.manifest c.in_ok-series.series c.in_ok-manifest.ensures.ok c.in_ok-series.ensures.ok told blank
    (c.make.ensures.crash told) (c.make-2.ensures.crash told))

pub returns-in_err-manifest-clause-readers : goal.returns-in_err-manifest-clause-readers
returns-in_err-manifest-clause-readers g c = c.in_err-manifest.ensures.refused.skips.readers

pub returns-in_err-series-clause-readers : goal.returns-in_err-series-clause-readers
returns-in_err-series-clause-readers g c =
    c.in_err-series.ensures.refused.skips.readers
    ∙ begun_readers _ c.in_ok-manifest.manifest (g.D.Disk.files c.args.disk.now) (g.D.Disk.files c.begin.new.disk) (g.D.Disk.crashes c.args.disk.now) (g.D.Disk.crashes c.begin.new.disk) (g.D.Disk.handed_out c.args.disk.now) (g.D.Disk.handed_out c.begin.new.disk) c.in_ok-manifest.ensures.ok

pub returns-in_err-segment-clause-readers : goal.returns-in_err-segment-clause-readers
returns-in_err-segment-clause-readers g c =
    c.in_err-segment.ensures.refused.skips.readers ∙ c.in_ok-series.ensures.ok.number.readers
    ∙ begun_readers _ c.in_ok-manifest.manifest (g.D.Disk.files c.args.disk.now) (g.D.Disk.files c.begin.new.disk) (g.D.Disk.crashes c.args.disk.now) (g.D.Disk.crashes c.begin.new.disk) (g.D.Disk.handed_out c.args.disk.now) (g.D.Disk.handed_out c.begin.new.disk) c.in_ok-manifest.ensures.ok

pub returns-clause-readers : goal.returns-clause-readers
returns-clause-readers g c =
    c.in_ok-segment.ensures.ok.number.readers ∙ c.in_ok-series.ensures.ok.number.readers
    ∙ begun_readers _ c.in_ok-manifest.manifest (g.D.Disk.files c.args.disk.now) (g.D.Disk.files c.begin.new.disk) (g.D.Disk.crashes c.args.disk.now) (g.D.Disk.crashes c.begin.new.disk) (g.D.Disk.handed_out c.args.disk.now) (g.D.Disk.handed_out c.begin.new.disk) c.in_ok-manifest.ensures.ok
