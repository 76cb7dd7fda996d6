use Rattle.std.proofs.Common.{◌≡◌, ℕ, suc, ◌+◌, List, [], ◌∷◌, ◌++◌, drop, sym, ap, ◌∙◌, subst, arith}
use Rattle.std.proofs.Math.Seq.{drop-cons}
use Rattle.point_model.specs.Rows.{Row}
use Rattle.point_cache.proofs.MergeLemmas.{Merging, drop_none, merging_all, merging_more}
use Rattle.point_cache.proofs.merging.merge.Goals as goal

pub loop-point-preserved : goal.loop-point-preserved
loop-point-preserved c =
    let held = c.args.held.now in
    let batch = c.args.batch.now in
    let i = c.loop-point.point-index in
    let x = c.point-item.result in
    let behind = drop c.in_ok-next.next held in
    let cons : drop i batch ≡ x ∷ drop (suc i) batch = drop-cons batch i x c.loop-point-test.true ∙ ap (λ (z : Row). z ∷ drop (suc i) batch) (sym c.point-item.is) in
    let was = subst (Merging held batch c.loop-point.merged.items (drop c.loop-point.next held)) cons c.loop-point.invariant.merging in
    let more = merging_more held batch c.loop-point.merged.items (drop c.loop-point.next held) x (drop (suc i) batch) behind c.put_behind.new.merged.items was c.in_ok-next.ensures.puts in
    let next : suc i ≡ i + 1 = omega arith in
    record { within = c.in_ok-next.ensures.bound; merging = subst (λ (n : ℕ). Merging held batch c.put_behind.new.merged.items behind (drop n batch)) next more }

pub returns : goal.returns
returns c =
    let held = c.args.held.now in
    let batch = c.args.batch.now in
    let none : drop c.loop-point.point-index batch ≡ [] = drop_none batch c.loop-point.point-index (omega arith) in
    let all = subst (Merging held batch c.loop-point.merged.items (drop c.loop-point.next held)) none c.loop-point.invariant.merging in
    merging_all held batch c.loop-point.merged.items (drop c.loop-point.next held) c.extend_from_slice.new.self.items all
    (c.in_ok-extend_from_slice.ensures.items ∙ ap (λ (l : List Row). c.loop-point.merged.items ++ l) c.split_at.ensures.back)
