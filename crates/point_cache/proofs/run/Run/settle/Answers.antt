use Rattle.std.proofs.Common.{◌≡◌, List, ◌++◌, take, drop, refl, sym, ap, ◌∙◌, subst, arith}
use Rattle.point_model.specs.Rows.{Row}
use Rattle.point_cache.specs.Cached.{AreAscending}
use Rattle.point_cache.specs.Staged.{Staged}
use Rattle.point_cache.proofs.OrderLemmas.{ascending-cut}
use Rattle.point_cache.proofs.SettleLemmas.{settled_union, union_same, union_short}
use Rattle.point_cache.proofs.run.Run.settle.Goals as goal

pub is_in_order-requires : goal.is_in_order-requires
is_in_order-requires c =
    let kept : c.parts.result.0.now ≡ take c.self.inside.cut c.self.inside.points.items = c.parts.ensures.kept ∙ ap (take c.self.inside.cut) c.as_slice.ensures.value in
    subst AreAscending (sym kept) (ascending-cut c.self.inside.points.items c.self.inside.cut c.self.inside.live c.self.invariant.0 c.self.invariant.2)

pub overtake-requires : goal.overtake-requires
overtake-requires c =
    let kept : c.parts.result.0.now ≡ take c.self.inside.cut c.self.inside.points.items = c.parts.ensures.kept ∙ ap (take c.self.inside.cut) c.as_slice.ensures.value in
    subst AreAscending (sym kept) (ascending-cut c.self.inside.points.items c.self.inside.cut c.self.inside.live c.self.invariant.0 c.self.invariant.2)

pub returns-clause-same : goal.returns-clause-same
returns-clause-same c =
    union_same _ _ _ _ c.args.self.now.next
    (settled_union c.self.inside.points.items c.overtake.new.scratch.merged.items c.extend_from_slice.new.self.items c.cut_out.new.points.items
    c.parts.result.0.now c.parts.result.1.now c.self.inside.cut c.in_ok-place.place c.self.inside.live c.len-end.result
    c.self.invariant.0 (omega (arith, c.self.invariant.1, c.self.inside.points.ok.0)) (c.len-end.ensures ∙ c.self.inside.points.ok.0)
    (c.parts.ensures.kept ∙ ap (take c.self.inside.cut) c.as_slice.ensures.value) (c.parts.ensures.staged ∙ ap (drop c.self.inside.live) c.as_slice.ensures.value)
    c.in_ok-place.ensures.bound c.in_ok-place.ensures.union
    (c.in_ok-extend_from_slice.ensures.items ∙ ap (λ (l : List Row). c.self.inside.points.items ++ l) c.as_slice-2.ensures.value) c.cut_out.ensures)
    refl (ap (λ (s : Staged). s.next) c.self.view_is)

pub returns-clause-ascending : goal.returns-clause-ascending
returns-clause-ascending c =
    (settled_union c.self.inside.points.items c.overtake.new.scratch.merged.items c.extend_from_slice.new.self.items c.cut_out.new.points.items
    c.parts.result.0.now c.parts.result.1.now c.self.inside.cut c.in_ok-place.place c.self.inside.live c.len-end.result
    c.self.invariant.0 (omega (arith, c.self.invariant.1, c.self.inside.points.ok.0)) (c.len-end.ensures ∙ c.self.inside.points.ok.0)
    (c.parts.ensures.kept ∙ ap (take c.self.inside.cut) c.as_slice.ensures.value) (c.parts.ensures.staged ∙ ap (drop c.self.inside.live) c.as_slice.ensures.value)
    c.in_ok-place.ensures.bound c.in_ok-place.ensures.union
    (c.in_ok-extend_from_slice.ensures.items ∙ ap (λ (l : List Row). c.self.inside.points.items ++ l) c.as_slice-2.ensures.value) c.cut_out.ensures).ascending

pub returns-clause-shorter : goal.returns-clause-shorter
returns-clause-shorter c =
    union_short _ _ _ c.args.self.now.next
    (settled_union c.self.inside.points.items c.overtake.new.scratch.merged.items c.extend_from_slice.new.self.items c.cut_out.new.points.items
    c.parts.result.0.now c.parts.result.1.now c.self.inside.cut c.in_ok-place.place c.self.inside.live c.len-end.result
    c.self.invariant.0 (omega (arith, c.self.invariant.1, c.self.inside.points.ok.0)) (c.len-end.ensures ∙ c.self.inside.points.ok.0)
    (c.parts.ensures.kept ∙ ap (take c.self.inside.cut) c.as_slice.ensures.value) (c.parts.ensures.staged ∙ ap (drop c.self.inside.live) c.as_slice.ensures.value)
    c.in_ok-place.ensures.bound c.in_ok-place.ensures.union
    (c.in_ok-extend_from_slice.ensures.items ∙ ap (λ (l : List Row). c.self.inside.points.items ++ l) c.as_slice-2.ensures.value) c.cut_out.ensures)
    (ap (λ (s : Staged). s.next) c.self.view_is)
