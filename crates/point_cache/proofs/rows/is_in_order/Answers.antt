use Rattle.std.proofs.Common.{◌≡◌, ◌+◌, List, [], ◌∷◌, ◌++◌, take, sym, ap, ◌∙◌, subst, arith, append_assoc, append-nil}
use Rattle.std.proofs.lemmas.List.{take_all}
use Rattle.std.specs.Prelude.{Some}
use Rattle.point_model.specs.Rows.{Row}
use Rattle.point_cache.specs.Cached.{AreAscending}
use Rattle.point_cache.proofs.OrderLemmas.{goes_on, ends_by, take_item, EndsBy}
use Rattle.point_cache.proofs.rows.is_in_order.Goals as goal

pub loop-point-init : goal.loop-point-init
loop-point-init c =
    let whole = sym (append-nil c.args.front.now) in
    record { ascending = subst AreAscending whole c.requires; ends = subst (EndsBy c.last_time-last.result) whole (ends_by c.last_time-last.result c.args.front.now c.last_time-last.ensures.some c.last_time-last.ensures.none) }

pub loop-point-preserved : goal.loop-point-preserved
loop-point-preserved c =
    let front = c.args.front.now in
    let so_far = take c.loop-point.point-index c.args.points.now in
    let x = c.point-item.result in
    let more = take_item c.args.points.now c.loop-point.point-index x c.loop-point-test.true c.point-item.is in
    let whole : front ++ take (c.loop-point.point-index + 1) c.args.points.now ≡ (front ++ so_far) ++ x ∷ [] = ap (λ (ys : List Row). front ++ ys) more ∙ sym (append_assoc front so_far (x ∷ [])) in
    let both = goes_on c.loop-point.last (front ++ so_far) x c.loop-point.invariant.ascending c.loop-point.invariant.ends (sym c.is_behind.ensures ∙ c.if-not-is_behind.false) in
    record { ascending = subst AreAscending (sym whole) both.0; ends = subst (EndsBy (Some x.0)) (sym whole) both.1 }

pub returns : goal.returns
returns c = λ _. subst (λ (ys : List Row). AreAscending (c.args.front.now ++ ys)) (take_all c.loop-point.point-index c.args.points.now (omega arith)) c.loop-point.invariant.ascending
