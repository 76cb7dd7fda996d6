use Rattle.std.proofs.Common.{⊎_elim, drop}
use Rattle.point_cache.specs.Cached.{AreAscending}
use Rattle.point_cache.specs.Staged.{Entry, Among, entries_of}
use Rattle.point_cache.proofs.EntryLemmas.{all_entries}
use Rattle.point_cache.proofs.StepLemmas.{settles_at, settles_then, staging_settles, settled_more, among_at, none_left}
use Rattle.point_cache.proofs.places.settle_all.Goals as goal

pub returns-in_err-settle_at-clause-settles : goal.returns-in_err-settle_at-clause-settles
returns-in_err-settle_at-clause-settles c =
    let old = entries_of c.loop-place.map.entries in
    let new = entries_of c.settle_at.new.map.entries in
    settles_then _ old new c.loop-place.invariant.settles (settles_at _ old new c.settle_at.ensures.settled)

pub returns-in_err-settle_at-clause-staging : goal.returns-in_err-settle_at-clause-staging
returns-in_err-settle_at-clause-staging c =
    let old = entries_of c.loop-place.map.entries in
    let new = entries_of c.settle_at.new.map.entries in
    staging_settles _ old new c.args.touched.now _ c.settle_at.new.total (among_at c.args.touched.now c.loop-place.place-index c.loop-place-test.true) c.settle_at.ensures.settled c.settle_at.ensures.counted c.loop-place.total c.loop-place.invariant.staging

pub loop-place-preserved : goal.loop-place-preserved
loop-place-preserved c =
    let inv = c.loop-place.invariant in
    let old = entries_of c.loop-place.map.entries in
    let new = entries_of c.settle_at.new.map.entries in
    let touched = c.args.touched.now in
    record {
      settles = settles_then _ old new inv.settles (settles_at _ old new c.settle_at.ensures.settled);
      staging = staging_settles _ old new touched _ c.settle_at.new.total (among_at touched c.loop-place.place-index c.loop-place-test.true) c.settle_at.ensures.settled c.settle_at.ensures.counted c.loop-place.total inv.staging;
      settled = settled_more touched c.loop-place.place-index old new c.loop-place-test.true c.settle_at.ensures.settled c.in_ok-settle_at.ensures.ok inv.settled;
    }

pub returns-clause-ok : goal.returns-clause-ok
returns-clause-ok c =
    let inv = c.loop-place.invariant in
    let es = entries_of c.loop-place.map.entries in
    let i = c.loop-place.place-index in
    let touched = c.args.touched.now in
    all_entries (λ (e : Entry). AreAscending e.1.next) es (λ p e at. ⊎_elim (λ (a : AreAscending e.1.next). a) (λ (a : Among (drop i touched) p). absurd (none_left touched i p c.loop-place-test.false a)) (inv.settled p e at))
