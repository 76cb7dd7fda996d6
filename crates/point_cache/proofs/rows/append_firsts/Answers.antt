use Rattle.std.proofs.Common.{◌≡◌, ℕ, ℤ, suc, ◌+◌, List, [], ◌∷◌, ◌++◌, take, drop, Some, sym, ap, refl, ◌∙◌, subst, arith, append-nil}
use Rattle.std.proofs.Math.Seq.{drop-cons, take-append_seam}
use Rattle.std.proofs.lemmas.List.{take_all}
use Rattle.point_model.specs.Rows.{Row}
use Rattle.point_cache.specs.Sorted.{is_later}
use Rattle.point_cache.proofs.OrderLemmas.{take_item, rising_at}
use Rattle.point_cache.proofs.LatestLemmas.{Firsts, firsts_more, added_with, appended, none_yet}
use Rattle.point_cache.proofs.ResultLemmas.{on_err}
use Rattle.point_cache.proofs.rows.append_firsts.Goals as goal

pub loop-point-init : goal.loop-point-init
loop-point-init c = record { added = []; end = c.len-end.ensures ∙ c.args.points.now.ok.0; appends = sym (append-nil c.args.points.now.items); firsts = none_yet c.args.sorted.now }

pub loop-point-preserved : goal.loop-point-preserved
loop-point-preserved c =
    let inv = c.loop-point.invariant in
    let i = c.loop-point.point-index in
    let sorted = c.args.sorted.now in
    let x = c.point-item.result in
    let b = is_later c.loop-point.last x.0 in
    let cons : drop i sorted ≡ x ∷ drop (suc i) sorted = drop-cons sorted i x c.loop-point-test.true ∙ ap (λ (z : Row). z ∷ drop (suc i) sorted) (sym c.point-item.is) in
    let high = rising_at sorted i x c.loop-point-test.true c.point-item.is c.requires in
    let more = firsts_more c.loop-point.last (take i sorted) (drop (suc i) sorted) inv.added x b refl high (subst (λ (l : List Row). Firsts c.loop-point.last (take i sorted) l inv.added) cons inv.firsts) in
    let next : suc i ≡ i + 1 = omega arith in
    let seen = subst (λ (l : List Row). Firsts (Some x.0) l (drop (suc i) sorted) (added_with b inv.added x)) (sym (take_item sorted i x c.loop-point-test.true c.point-item.is)) more in
    let rest = subst (λ (n : ℕ). Firsts (Some x.0) (take (i + 1) sorted) (drop n sorted) (added_with b inv.added x)) next seen in
    record {
      added = added_with b inv.added x;
      end = inv.end;
      appends = c.in_ok-time.ensures.ok ∙ appended b c.args.points.now.items inv.added c.loop-point.points.items x inv.appends;
      firsts = subst (λ (t : ℤ). Firsts (Some t) (take (i + 1) sorted) (drop (i + 1) sorted) (added_with b inv.added x)) (sym c.in_ok-time.ensures.time) rest;
    }

pub returns-clause-ok : goal.returns-clause-ok
returns-clause-ok c =
    let inv = c.loop-point.invariant in
    let sorted = c.args.sorted.now in
    let all : take c.loop-point.point-index sorted ≡ sorted = take_all c.loop-point.point-index sorted (omega arith) in
    let f = subst (λ (l : List Row). Firsts c.loop-point.last l (drop c.loop-point.point-index sorted) inv.added) all inv.firsts in
    record { added = inv.added; appends = inv.appends; short = f.short; ascending = f.ascending; firsts = f.firsts; bound = f.bound }

pub returns-in_err-time-clause-err : goal.returns-in_err-time-clause-err
returns-in_err-time-clause-err c =
    let inv = c.loop-point.invariant in
    on_err c.from_residual.result
    (c.in_err-time.ensures.err ∙ ap (take c.len-end.result) inv.appends ∙ ap (λ (n : ℕ). take n (c.args.points.now.items ++ inv.added)) inv.end ∙ take-append_seam c.args.points.now.items inv.added)
