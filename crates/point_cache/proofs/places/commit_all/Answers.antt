use Rattle.std.proofs.Common.{sym, ap, ◌∙◌}
use Rattle.point_cache.specs.Staged.{entries_of, plain}
use Rattle.point_cache.proofs.StepLemmas.{covered_commit, nexts_commit, settled_commit, unstaged, plain_nexts}
use Rattle.point_cache.proofs.places.commit_all.Goals as goal

pub loop-place-preserved : goal.loop-place-preserved
loop-place-preserved c =
    let inv = c.loop-place.invariant in
    let old = entries_of c.loop-place.map.entries in
    let new = entries_of c.commit_at.new.map.entries in
    record {
      nexts = nexts_commit _ old new c.commit_at.ensures ∙ inv.nexts;
      settled = settled_commit _ old new c.commit_at.ensures inv.settled;
      covered = covered_commit c.args.touched.now c.loop-place.place-index old new c.loop-place-test.true inv.settled c.commit_at.ensures inv.covered;
    }

pub returns : goal.returns
returns c =
    let inv = c.loop-place.invariant in
    let es = entries_of c.loop-place.map.entries in
    sym (plain_nexts es (unstaged c.args.touched.now c.loop-place.place-index es c.loop-place-test.false inv.covered)) ∙ ap plain inv.nexts
