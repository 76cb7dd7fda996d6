-- The key is of another measurement, or its rows tell.
use Rattle.std.proofs.Common.{◌≡◌, ◌∙◌, ◌&&◌, ap, sym, Bool, true, false, List, ℕ, is_some}
use Rattle.point_model.specs.Rows.{Row}
use Rattle.point_cache.specs.Cached.{points_at, rows_outside}
use Rattle.live_points.specs.Held.{composite, first_kind}
use Rattle.live_points.specs.Removed.{rows_left}
use Rattle.live_points.proofs.TakingLemmas.{left_is}
use Rattle.live_points.proofs.removal.is_left.Goals as goal

pub returns-then-not-is_of : goal.returns-then-not-is_of
returns-then-not-is_of c =
    sym (ap (λ (b : Bool). b && is_some (first_kind (rows_left c.args.cache.now.runs c.args.deletion.now (c.args.series.now, c.args.field.now)))) (sym c.is_of.ensures ∙ c.if-not-is_of.true))

pub returns-then-meets : goal.returns-then-meets
returns-then-meets c =
    let runs = c.args.cache.now.runs in
    let deletion = c.args.deletion.now in
    let rows : c.rows_of-rows.result.now ≡ points_at runs (composite (c.args.series.now, c.args.field.now)) =
    c.rows_of-rows.ensures.points ∙ ap (λ (bytes : List ℕ). points_at runs bytes) (c.as_slice.ensures.value ∙ c.in_ok-write_key.ensures.ok) in
    c.has_outside.ensures ∙ ap (λ (rs : List Row). is_some (first_kind (rows_outside deletion.from deletion.to rs))) rows
    ∙ sym (left_is runs deletion (c.args.series.now, c.args.field.now) true (sym c.is_of.ensures ∙ c.if-not-is_of.false) (sym c.meets.ensures ∙ c.if-meets.true))

pub returns : goal.returns
returns c =
    let runs = c.args.cache.now.runs in
    let deletion = c.args.deletion.now in
    let rows : c.rows_of-rows.result.now ≡ points_at runs (composite (c.args.series.now, c.args.field.now)) =
    c.rows_of-rows.ensures.points ∙ ap (λ (bytes : List ℕ). points_at runs bytes) (c.as_slice.ensures.value ∙ c.in_ok-write_key.ensures.ok) in
    c.is_some.ensures ∙ ap is_some c.first_kind.ensures ∙ ap (λ (rs : List Row). is_some (first_kind rs)) rows
    ∙ sym (left_is runs deletion (c.args.series.now, c.args.field.now) false (sym c.is_of.ensures ∙ c.if-not-is_of.false) (sym c.meets.ensures ∙ c.if-meets.false))
