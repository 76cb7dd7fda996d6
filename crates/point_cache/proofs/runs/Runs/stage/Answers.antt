use Rattle.std.proofs.Common.{◌≡◌, ℕ, ◌<◌, length, List, take, Some, slice_get, sym, ◌∙◌, subst, refl, arith}
use Rattle.std.proofs.lemmas.Option.{slice_get_read}
use Rattle.tsdb_types.specs.declared.point.Point.{Point}
use Rattle.point_cache.specs.Staged.{Among}
use Rattle.point_cache.specs.Steps.{Grows, HasKey, WillSet, point_key}
use Rattle.point_cache.proofs.EntryLemmas.{item_or}
use Rattle.point_cache.proofs.OrderLemmas.{take_item}
use Rattle.point_cache.proofs.StepLemmas.{grows_then, grows_adds, grows_put, has_found, has_put, sets_more, some_item}
use Rattle.point_cache.proofs.runs.Runs.stage.Goals as goal

pub returns-in_err-place-clause-grows : goal.returns-in_err-place-clause-grows
returns-in_err-place-clause-grows c =
    let h : c.loop-i.i < length c.args.points.now = omega arith in
    let x = some_item c.args.points.now c.loop-i.i h in
    grows_then _ _ _ c.loop-i.invariant.grows (grows_adds (point_key x.0) _ _ (c.place_at.ensures.adds x.0 x.1))

pub put-requires-clause-key : goal.put-requires-clause-key
put-requires-clause-key c =
    let h : c.loop-i.i < length c.args.points.now = omega arith in
    let at = slice_get_read c.args.points.now (length c.args.points.now) c.loop-i.i c.index-points-i.result refl h c.index-points-i.is in
    has_found (point_key c.index-points-i.result) c.in_ok-place.place _ _ (c.in_ok-place.ensures.found c.index-points-i.result at).0

pub put-requires-clause-touched : goal.put-requires-clause-touched
put-requires-clause-touched c =
    let h : c.loop-i.i < length c.args.points.now = omega arith in
    let at = slice_get_read c.args.points.now (length c.args.points.now) c.loop-i.i c.index-points-i.result refl h c.index-points-i.is in
    (c.in_ok-place.ensures.found c.index-points-i.result at).1

pub returns-in_err-put-clause-grows : goal.returns-in_err-put-clause-grows
returns-in_err-put-clause-grows c =
    let h : c.loop-i.i < length c.args.points.now = omega arith in
    let x = some_item c.args.points.now c.loop-i.i h in
    subst (Grows c.args.self.now.entries) (sym c.in_err-put.ensures.err)
    (grows_then _ _ _ c.loop-i.invariant.grows (grows_adds (point_key x.0) _ _ (c.place_at.ensures.adds x.0 x.1)))

pub loop-i-preserved : goal.loop-i-preserved
loop-i-preserved c =
    let points = c.args.points.now in
    let i = c.loop-i.i in
    let x = c.index-points-i.result in
    let inv = c.loop-i.invariant in
    let h : i < length points = omega arith in
    let at = slice_get_read points (length points) i x refl h c.index-points-i.is in
    let found = c.in_ok-place.ensures.found x at in
    let has = has_found (point_key x) c.in_ok-place.place _ _ found.0 in
    let put = c.in_ok-put.ensures.ok in
    record {
      grows = grows_then _ _ _ (grows_then _ _ _ inv.grows (grows_adds (point_key x) _ _ (c.place_at.ensures.adds x at))) (grows_put c.in_ok-place.place _ _ _ put);
      sets = subst (λ (l : List Point). WillSet l c.args.self.now.entries c.put.new.self.entries) (sym (take_item points i x h c.index-points-i.is))
          (sets_more (take i points) x c.in_ok-place.place c.args.self.now.entries c.loop-i.self.entries c.place_at.new.self.entries c.put.new.self.entries found.0 put inv.sets);
      before = λ k e point there.
          let same : k ≡ i = omega arith in
          let here = subst (λ (n : ℕ). slice_get points n ≡ Some point) same there in
          let own : point ≡ x = item_or points i x point h here ∙ sym c.index-points-i.is in (
            subst (λ (p : Point). HasKey c.put.new.self.entries c.in_ok-place.place (point_key p)) (sym own) (has_put c.in_ok-place.place (point_key x) _ _ _ has put),
            subst (λ (l : List ℕ). Among l c.in_ok-place.place) (sym c.put.ensures.touched) found.1,
          );
    }
