-- The points of the key are taken away, and where none is left it is known no more.
use Rattle.std.proofs.Common.{◌≡◌, ◌∙◌, ap, sym, List, [], ◌∷◌, ℕ, is_some}
use Rattle.point_model.specs.Rows.{Row}
use Rattle.point_cache.specs.Cached.{latest, points_at, value_at}
use Rattle.point_cache.specs.Calls.{value_without}
use Rattle.live_points.specs.Held.{composite}
use Rattle.live_points.proofs.TakingLemmas.{forgets_key, forgets_none, no_rows, on_ok_is}
use Rattle.live_points.proofs.removal.take_key.Goals as goal

pub returns-then-is_some-clause-values : goal.returns-then-is_some-clause-values
returns-then-is_some-clause-values c = λ bytes time.
    let written = on_ok_is c.write_key.result c.write_key.ensures.ok (c.write_key.ensures.succeeds c.requires.room) in
    c.remove.ensures.values bytes time
    ∙ ap (λ (own : List ℕ). value_without own c.args.from c.args.to bytes time (value_at c.args.cache.now.runs bytes time)) (c.as_slice.ensures.value ∙ written)

pub returns-then-is_some-clause-known : goal.returns-then-is_some-clause-known
returns-then-is_some-clause-known c = forgets_none c.remove.new.self.runs (c.args.key.now ∷ []) c.args.known.now

pub returns-clause-values : goal.returns-clause-values
returns-clause-values c = λ bytes time.
    let written = on_ok_is c.write_key.result c.write_key.ensures.ok (c.write_key.ensures.succeeds c.requires.room) in
    c.remove.ensures.values bytes time
    ∙ ap (λ (own : List ℕ). value_without own c.args.from c.args.to bytes time (value_at c.args.cache.now.runs bytes time)) (c.as_slice.ensures.value ∙ written)

pub returns-clause-known : goal.returns-clause-known
returns-clause-known c =
    let written = on_ok_is c.write_key.result c.write_key.ensures.ok (c.write_key.ensures.succeeds c.requires.room) in
    let runs = c.remove.new.self.runs in
    let rows : c.rows_of.result.now ≡ points_at runs (composite c.args.key.now) =
    c.rows_of.ensures.points ∙ ap (λ (bytes : List ℕ). points_at runs bytes) (c.as_slice-2.ensures.value ∙ written) in
    forgets_key runs c.args.key.now c.args.known.now c.remove-2.new.self
    (λ time. ap (λ (rs : List Row). latest rs time) (sym rows) ∙ no_rows c.rows_of.result.now (sym (c.is_some.ensures ∙ ap is_some c.first_kind.ensures) ∙ c.if-is_some.false) time)
    c.remove-2.ensures.updates.0
