use Rattle.std.proofs.Common.{◌≡◌, List, ◌++◌, take, drop, not, sym, ap, ◌∙◌, subst, arith}
use Rattle.std.proofs.lemmas.List.{take_all}
use Rattle.point_model.specs.Rows.{Row}
use Rattle.point_cache.specs.Cached.{AreAscending, is_within, rows_outside}
use Rattle.point_cache.specs.Staged.{Staged}
use Rattle.point_cache.proofs.OrderLemmas.{ascending-filter}
use Rattle.point_cache.proofs.run.Run.remove.Goals as goal

pub range-first-requires : goal.range-first-requires
range-first-requires c = subst AreAscending (sym (c.as_slice.ensures.value ∙ c.truncate.ensures.items)) c.self.invariant.2

pub returns-clause-live : goal.returns-clause-live
returns-clause-live c =
    let points = c.cut_out.new.points in
    let all = take_all c.len-self-inside.result points.items (omega (arith, c.len-self-inside.ensures, points.ok.0)) in
    let outside = subst (λ (l : List Row). take c.range-first.result.0 l ++ drop c.range-first.result.1 l ≡ rows_outside c.args.from c.args.to l) c.as_slice.ensures.value c.range-first.ensures.outside in
    all ∙ c.cut_out.ensures ∙ outside ∙ ap (rows_outside c.args.from c.args.to) (c.truncate.ensures.items ∙ ap (λ (s : Staged). s.live) c.self.view_is)

pub invariant_of-self : goal.invariant_of-self
invariant_of-self c =
    let points = c.cut_out.new.points in
    let all = take_all c.len-self-inside.result points.items (omega (arith, c.len-self-inside.ensures, points.ok.0)) in
    let outside = subst (λ (l : List Row). take c.range-first.result.0 l ++ drop c.range-first.result.1 l ≡ rows_outside c.args.from c.args.to l) c.as_slice.ensures.value c.range-first.ensures.outside in
    let was = subst AreAscending (sym c.truncate.ensures.items) c.self.invariant.2 in
    let is = subst AreAscending (sym (all ∙ c.cut_out.ensures ∙ outside)) (ascending-filter (λ (r : Row). not (is_within c.args.from c.args.to r.0)) c.truncate.new.self.items was) in
    (omega arith, omega (arith, c.len-self-inside.ensures), is)
