use Rattle.std.proofs.Common.{◌≡◌, ◌≢◌, ◌++◌, ◌∷◌, [], ℕ, List, Bor, ap, ◌∙◌}
use Rattle.std.proofs.lemmas.List.{append_assoc}
use Rattle.tsdb_types.specs.declared.point.Point.{Point}
use Rattle.wal_store.specs.Form.{point_bytes, IsPointOf}
use Rattle.wal_store.proofs.TextLemmas.{if_some_at, if_none_at}
use Rattle.wal_store.proofs.ListLemmas.{took_one, stuck_none}
use Rattle.wal_store.proofs.PointLemmas.{same_point}
use Rattle.wal_store.proofs.group.take_points.Goals as goal

pub returns-in_default-clause-none : goal.returns-in_default-clause-none
returns-in_default-clause-none c =
    let Is = IsPointOf c.args.series.now in
    stuck_none Point point_bytes Is c.args.bytes.now c.loop.invariant.0 c.loop.rest.now c.loop.counter c.args.count c.loop.invariant.2 c.loop-test.true
    (if_none_at ((point : Point) (rest : List ℕ) → IsPointOf c.args.series.now point → c.loop.rest.now ≢ point_bytes point ++ rest) c.in_ok-point.field-0 c.in_default.is c.in_ok-point.ensures.none)

pub loop-preserved : goal.loop-preserved
loop-preserved c =
    let found = if_some_at (λ (v : Point × Bor (List ℕ)). c.loop.rest.now ≡ point_bytes v.0 ++ v.1.now) c.in_ok-point.field-0 (c.in-Some.point, c.in-Some.behind) c.in-Some.is c.in_ok-point.ensures.found in
    let point = if_some_at (λ (v : Point × Bor (List ℕ)). IsPointOf c.args.series.now v.0) c.in_ok-point.field-0 (c.in-Some.point, c.in-Some.behind) c.in-Some.is c.in_ok-point.ensures.point in (
      c.loop.invariant.0 ++ c.in-Some.point ∷ [],
      c.in_ok-push.ensures.items ∙ ap (λ (l : List Point). l ++ c.in-Some.point ∷ []) c.loop.invariant.1 ∙ append_assoc c.args.points.now.items c.loop.invariant.0 (c.in-Some.point ∷ []),
      took_one Point point_bytes (IsPointOf c.args.series.now) (same_point c.args.series.now) c.args.bytes.now c.loop.invariant.0 c.loop.rest.now c.in-Some.behind.now c.loop.counter c.in-Some.point c.loop.invariant.2 found point,
    )
