use Rattle.std.proofs.Common.{◌≡◌, ℕ, ◌<◌, ◌⊎◌, List, [], ◌∷◌, ◌++◌, length, get_or, inl, inr, sym, ap, ◌∙◌, subst, arith}
use Rattle.std.proofs.lemmas.Bool.Decides.{nat_tests}
use Rattle.series_index.specs.Merging.{behind_id}
use Rattle.series_index.proofs.MergeLemmas.{HasMerged, merged_one, merged_all, first_item, no_items}
use Rattle.series_index.proofs.merge.either.Goals as goal
use Rattle.series_index.proofs.merge.either.Goals.{then-loop-id-test+else-not-is_empty, else-loop-id-test}

pub loop-id-preserved : goal.loop-id-preserved
loop-id-preserved c all is also ascending first second =
    let left = c.loop-id.left.now in
    let right = c.loop-id.right.now in
    let empty = c.is_empty.ensures in
    let test = c.loop-id-test.ensures in
    let empty' = c.is_empty-in-loop-id.ensures in
    let test' = c.if-not-is_empty.ensures in
    let some : 0 < length c.loop-id.left.now = grind (arith, nat_tests, test, empty) in
    let some' : 0 < length c.loop-id.right.now = grind (arith, nat_tests, test', empty') in
    let a = first_item left some in
    let b = first_item right some' in
    let merged = merged_one all is also c.loop-id.merged.items left right (get_or left 0 0) (get_or right 0 0) c.least-id.result a.0 b.0 (c.loop-id.invariant all is also ascending first second) a.1 b.1
    c.least-id.ensures.least.0 c.least-id.ensures.least.1 c.least-id.ensures.either in
    subst (λ (l : List ℕ). HasMerged all is also l c.behind-left.result.now c.behind-right.result.now) (sym c.in_ok-push.ensures.items)
    (subst (λ (l : List ℕ). HasMerged all is also (c.loop-id.merged.items ++ c.least-id.result ∷ []) l c.behind-right.result.now) (sym c.behind-left.ensures)
    (subst (λ (l : List ℕ). HasMerged all is also (c.loop-id.merged.items ++ c.least-id.result ∷ []) (behind_id c.least-id.result left) l) (sym c.behind-right.ensures) merged))

pub returns : goal.returns
returns c all is also ascending first second =
    let end : (c.loop-id.left.now ≡ []) ⊎ (c.loop-id.right.now ≡ []) = elim c.loop-id-test.branch [
      | then-loop-id-test+else-not-is_empty w ↦ inr (let test = w.if-not-is_empty.ensures in let empty = w.is_empty-in-loop-id.ensures in no_items c.loop-id.right.now (grind (arith, nat_tests, test, empty)))
      | else-loop-id-test w ↦ inl (let test = w.loop-id-test.ensures in let empty = c.is_empty.ensures in no_items c.loop-id.left.now (grind (arith, nat_tests, test, empty)))
    ] in
    c.in_ok-extend_from_slice-2.ensures.items ∙ ap (λ (l : List ℕ). l ++ c.loop-id.right.now) c.in_ok-extend_from_slice.ensures.items
    ∙ merged_all all is also c.loop-id.merged.items c.loop-id.left.now c.loop-id.right.now (c.loop-id.invariant all is also ascending first second) end
