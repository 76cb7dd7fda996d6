use Rattle.std.proofs.Common.{sym, ap, ◌∙◌}
use Rattle.point_cache.specs.Staged.{entries_of, plain}
use Rattle.point_cache.proofs.StepLemmas.{covered_discard, lives_discard, unstaged, plain_lives}
use Rattle.point_cache.proofs.places.discard_all.Goals as goal

pub loop-place-preserved : goal.loop-place-preserved
loop-place-preserved c =
    let inv = c.loop-place.invariant in
    let old = entries_of c.loop-place.map.entries in
    let new = entries_of c.discard_at.new.map.entries in
    record {
      lives = lives_discard _ old new c.discard_at.ensures ∙ inv.lives;
      covered = covered_discard c.args.touched.now c.loop-place.place-index old new c.loop-place-test.true c.discard_at.ensures inv.covered;
    }

pub returns : goal.returns
returns c =
    let inv = c.loop-place.invariant in
    let es = entries_of c.loop-place.map.entries in
    sym (plain_lives es (unstaged c.args.touched.now c.loop-place.place-index es c.loop-place-test.false inv.covered)) ∙ ap plain inv.lives
