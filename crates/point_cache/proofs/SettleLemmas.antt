-- What is staged, brought into order, makes the same of the points.
use Rattle.std.proofs.Common.{◌≡◌, ℕ, ◌≤◌, ℤ, List, ◌++◌, length, take, drop, length-append, sym, ap, ◌∙◌, subst, arith}
use Rattle.std.proofs.Math.Seq.{drop-append_seam}
use Rattle.std.proofs.lemmas.List.{take-append-le, length-take-le}
use Rattle.point_model.specs.Rows.{Row}
use Rattle.point_cache.specs.Cached.{latest}
use Rattle.point_cache.specs.Merged.{IsUnion}
use Rattle.point_cache.proofs.OrderLemmas.{take-take}
use Rattle.point_cache.proofs.LatestLemmas.{latest-append}

-- the appended points take the place of those that were staged
pub settled_next : (points added more cut : List Row) (place live end : ℕ) → place ≤ live → live ≤ length points → end ≡ length points → more ≡ points ++ added → cut ≡ take live more ++ drop end more
    → take place cut ++ drop live cut ≡ take place points ++ added
settled_next points added more cut place live end low high at grown is =
    let front : take live more ≡ take live points = ap (take live) grown ∙ take-append-le live points added high in
    let back : drop end more ≡ added = ap (drop end) grown ∙ ap (λ (n : ℕ). drop n (points ++ added)) at ∙ drop-append_seam points added in
    let whole : cut ≡ take live points ++ added = is ∙ ap (λ (l : List Row). l ++ drop end more) front ∙ ap (λ (l : List Row). take live points ++ l) back in
    let long : length (take live points) ≡ live = length-take-le live points high in
    let first : take place cut ≡ take place points = ap (take place) whole ∙ take-append-le place (take live points) added (omega arith) ∙ take-take points place live low in
    let rest : drop live cut ≡ added = ap (drop live) whole ∙ ap (λ (n : ℕ). drop n (take live points ++ added)) (sym long) ∙ drop-append_seam (take live points) added in
    ap (λ (l : List Row). l ++ drop live cut) first ∙ ap (λ (l : List Row). take place points ++ l) rest

-- the kept points that stay with the merged ones behind them are what there will be
pub settled_union : (points merged more new kept staged : List Row) (cut place live end : ℕ) → cut ≤ live → live ≤ length points → end ≡ length points → kept ≡ take cut points → staged ≡ drop live points → place ≤ length kept
    → IsUnion kept staged (take place kept ++ merged) → more ≡ points ++ merged → new ≡ take live more ++ drop end more → IsUnion (take cut points) (drop live points) (take place new ++ drop live new)
settled_union points merged more new kept staged cut place live end order within at first second low u grown is =
    let long : length kept ≡ cut = ap length first ∙ length-take-le cut points (omega (arith, order, within)) in
    let next = settled_next points merged more new place live end (omega (arith, order, low, long)) within at grown is in
    let front : take place kept ≡ take place points = ap (take place) first ∙ take-take points place cut (omega (arith, low, long)) in
    let whole : take place kept ++ merged ≡ take place new ++ drop live new = ap (λ (l : List Row). l ++ merged) front ∙ sym next in
    subst (λ (l : List Row). IsUnion (take cut points) l (take place new ++ drop live new)) second
    (subst (λ (l : List Row). IsUnion l staged (take place new ++ drop live new)) first (subst (IsUnion kept staged) whole u))

pub union_same : (kept staged union next old : List Row) → IsUnion kept staged union → union ≡ next → kept ++ staged ≡ old → (t : ℤ) → latest next t ≡ latest old t
union_same kept staged union next old u is was t = ap (λ (l : List Row). latest l t) (sym is) ∙ u.values t ∙ sym (latest-append kept staged t) ∙ ap (λ (l : List Row). latest l t) was

pub union_short : (kept staged union old : List Row) → IsUnion kept staged union → kept ++ staged ≡ old → length union ≤ length old
union_short kept staged union old u was = let a = length-append kept staged in let b = ap length was in let c = u.short in omega (arith, a, b, c)
