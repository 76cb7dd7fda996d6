use Rattle.std.proofs.Common.{get_or, refl}
use Rattle.std.proofs.lemmas.Option.{get_or_from_slice_get}
use Rattle.index_file.proofs.FitLemmas.{marks_one}
use Rattle.index_file.proofs.fit.mark_ids.Goals as goal

pub loop-id-preserved : goal.loop-id-preserved
loop-id-preserved c =
    let ids = c.args.ids.now in
    let id = get_or c.args.list.now c.loop-id.id-index 0 in
    marks_one ids c.args.list.now c.loop-id.id-index id c.in-Some.place c.args.marks.now.items c.loop-id.marks.items c.loop-id.invariant c.requires.ascending c.loop-id-test.true refl
    c.in-Some.ensures.bound (get_or_from_slice_get ids c.in-Some.place id 0 c.in-Some.ensures.found)
