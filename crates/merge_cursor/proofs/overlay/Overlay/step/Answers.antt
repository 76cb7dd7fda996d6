use Rattle.std.proofs.Common.{arith, refl, ◌≡◌, length}
use Rattle.std.proofs.lemmas.Option.{slice_get_read}
use Rattle.merge_cursor.proofs.ChoiceLemmas.{found_next, found_all, found_none}
use Rattle.merge_cursor.proofs.overlay.Overlay.step.Goals as goal

pub loop-source-preserved : goal.loop-source-preserved
loop-source-preserved c =
    found_next _ _ _ _ _ _ c.loop-source.invariant (slice_get_read _ _ _ _ refl c.loop-source-test.true c.index-heads-source.is) c.first_of-next.ensures

pub returns-clause-next : goal.returns-clause-next
returns-clause-next c =
    let whole : c.loop-source.source ≡ length c.args.heads.now = omega arith in
    found_all _ _ _ _ whole c.loop-source.invariant

pub returns-clause-none : goal.returns-clause-none
returns-clause-none c =
    let whole : c.loop-source.source ≡ length c.args.heads.now = omega arith in
    found_none _ _ _ _ whole c.loop-source.invariant
