use Rattle.std.proofs.Common.{ℕ, IsTrue, get_or}
use Rattle.std.proofs.lemmas.Option.{get_or_from_slice_get}
use Rattle.index_file.specs.Contents.{has}
use Rattle.index_file.proofs.FitLemmas.{all_more, has_at}
use Rattle.index_file.proofs.fit.are_among.Goals as goal

pub loop-id-preserved : goal.loop-id-preserved
loop-id-preserved c =
    let ids = c.args.ids.now in
    let id = get_or c.args.list.now c.loop-id.id-index 0 in
    all_more (λ (x : ℕ). IsTrue (has c.args.ids.now x)) c.args.list.now c.loop-id.id-index 0 c.loop-id-test.true c.loop-id.invariant
    (has_at ids id c.in-Some.place c.in-Some.ensures.bound (get_or_from_slice_get ids c.in-Some.place id 0 c.in-Some.ensures.found))
