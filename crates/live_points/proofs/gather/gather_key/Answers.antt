-- The key has points, and its rows are put behind the others.
use Rattle.std.proofs.Common.{◌∙◌, ap, sym, List, ℕ}
use Rattle.point_cache.specs.Cached.{points_at}
use Rattle.live_points.specs.Listed.{rows_between}
use Rattle.live_points.proofs.GatherLemmas.{rows_pushed}
use Rattle.live_points.proofs.gather.gather_key.Goals as goal

pub returns-clause-rows : goal.returns-clause-rows
returns-clause-rows c =
    let runs = c.args.cache.now.runs in
    let need = c.args.need.now in
    rows_pushed runs need (c.args.series.now, c.args.field.now) c.rows_of.result.now c.args.rows.now.items c.push-2.new.self.items c.in_ok-rows_of.field-0
    (c.rows_of.ensures.points ∙ ap (λ (bytes : List ℕ). points_at runs bytes) (c.as_slice.ensures.value ∙ c.in_ok-write_key.ensures.ok))
    (sym c.is_empty.ensures ∙ c.if-is_empty.false)
    c.in_ok-push-2.ensures.items
    (c.in_ok-rows_of.ensures ∙ ap (λ (bytes : List ℕ). rows_between runs need bytes) (c.as_slice-2.ensures.value ∙ c.in_ok-write_key.ensures.ok))
