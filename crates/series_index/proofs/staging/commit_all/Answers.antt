use Rattle.std.proofs.Common.{◌≡◌, ◌∷◌, ◌++◌, List, length, ap, subst, arith}
use Rattle.std.specs.Vec.Iter.{into_iter_items}
use Rattle.index_lists.specs.Pairs.{after_all}
use Rattle.index_lists.specs.Ready.{AreReady, Prepared}
use Rattle.series_index.specs.Index.{changes_of}
use Rattle.series_index.specs.Staging.{changing}
use Rattle.series_index.proofs.StagingLemmas.{Left, left_behind}
use Rattle.series_index.proofs.staging.commit_all.Goals as goal

pub loop-one-preserved : goal.loop-one-preserved
loop-one-preserved c =
    let inv = c.loop-one.invariant in
    let left = into_iter_items c.next.new.self in
    let steps : into_iter_items c.loop-one.one-iterator ≡ c.in-Some.one ∷ left = c.in-Some.ensures.steps.0 in
    record {
      ready = c.commit_one.ensures.ready left (subst (AreReady c.loop-one.lists) steps inv.ready);
      left = λ pairs holds may.
          let changes = changes_of (into_iter_items c.into_iter-one-iterator.result) in
          let wanted = after_all changes pairs in
          let logged = c.args.pending.now.items ++ changing changes pairs in
          left_behind c.in-Some.one.change (changes_of left) c.loop-one.lists c.commit_one.new.lists c.loop-one.pending.items c.commit_one.new.pending.items wanted logged
          (subst (λ (ps : List Prepared). Left (changes_of ps) c.loop-one.lists c.loop-one.pending.items wanted logged) steps (inv.left pairs holds may)) c.commit_one.ensures.content c.commit_one.ensures.pending;
      room =
          let few = c.commit_one.ensures.few in
          let had = inv.room in
          let one = ap length steps in
          let more = c.commit_one.ensures.capacity in omega (arith, few, had, one, more);
      capacity = let had = inv.capacity in let more = c.commit_one.ensures.capacity in omega (arith, had, more);
      len = omega (arith, inv.len, ap length steps, c.in-Some.ensures.steps.1);
    }
