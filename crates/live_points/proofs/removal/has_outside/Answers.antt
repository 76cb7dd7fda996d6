-- A row is outside, or all are inside.
use Rattle.std.proofs.Common.{◌+◌, ◌∙◌, ap, sym, refl, List, drop, is_some}
use Rattle.std.proofs.lemmas.List.{drop_all}
use Rattle.point_model.specs.Rows.{Row}
use Rattle.point_cache.specs.Cached.{rows_outside}
use Rattle.live_points.specs.Held.{first_kind}
use Rattle.live_points.proofs.TakingLemmas.{inside_skipped, outside_found, rest_at}
use Rattle.live_points.proofs.removal.has_outside.Goals as goal

pub loop-row-init : goal.loop-row-init
loop-row-init c = refl

pub loop-row-preserved : goal.loop-row-preserved
loop-row-preserved c =
    let rows = c.args.rows.now in
    let i = c.loop-row.row-index in
    let row = c.row-item.result in
    c.loop-row.invariant
    ∙ ap (rows_outside c.args.from c.args.to) (rest_at rows i row c.loop-row-test.true c.row-item.is)
    ∙ inside_skipped c.args.from c.args.to row (drop (i + 1) rows) (sym c.is_between.ensures ∙ c.if-not-is_between.false)

pub returns-then-not-is_between : goal.returns-then-not-is_between
returns-then-not-is_between c =
    let rows = c.args.rows.now in
    let i = c.loop-row.row-index in
    let row = c.row-item.result in
    sym (ap (λ (rs : List Row). is_some (first_kind rs)) (c.loop-row.invariant ∙ ap (rows_outside c.args.from c.args.to) (rest_at rows i row c.loop-row-test.true c.row-item.is))
    ∙ outside_found c.args.from c.args.to row (drop (i + 1) rows) (sym c.is_between.ensures ∙ c.if-not-is_between.true))

pub returns : goal.returns
returns c =
    sym (ap (λ (rs : List Row). is_some (first_kind rs)) (c.loop-row.invariant ∙ ap (rows_outside c.args.from c.args.to) (drop_all c.loop-row.row-index c.args.rows.now c.loop-row-test.false)))
