-- The points of the snapshot are a source of those that are asked for and not hidden.
use Rattle.std.proofs.Common.{◌≡◌, ◌∙◌, sym, subst, ℤ, List, [], Option, Some}
use Rattle.std.specs.Prelude.{◌↔◌}
use Rattle.std.specs.List.{AllByRecursion}
use Rattle.std.specs.Option.{option_map_or}
use Rattle.tombstones.specs.Covered.{Hides, Tomb, hides}
use Rattle.tombstones.specs.Ranges.{Covers}
use Rattle.tombstones.specs.declared.range.TombRange.{TombRange}
use Rattle.merge_cursor.specs.Overlays.{AreInOrder}
use Rattle.point_cache.specs.declared.key_points.KeyPoints.{KeyPoints}
use Rattle.point_cache.specs.declared.key_points.KeyRun.{KeyRun}
use Rattle.point_cache.specs.Cached.{AreAscending, IsRun, points_at}
use Rattle.point_view.specs.Layers.{frozen, frozen_rows}
use Rattle.point_view.specs.Sources.{rows_at}
use Rattle.point_view.proofs.LayerLemmas.{lacks_key, layer_none, layer_ordered, no_snapshot, ordered_pushed, points_ascend, run_ascends, shown_none, shown_pushed, snapshot_source}
use Rattle.point_view.proofs.memory.add_frozen.Goals as goal

pub returns-in-None-clause-shown : goal.returns-in-None-clause-shown
returns-in-None-clause-shown c =
    let need = c.args.need.now in
    let cached = c.args.cache.now in
    let key = c.args.key.now in
    shown_none need.descending c.args.sources.now.items (frozen_rows need cached key)
    (layer_none need (hides cached.tombs key) (points_at (frozen cached) key) (no_snapshot cached key c.in-None.ensures.snapshot))

pub returns-in-None-place_of-clause-shown : goal.returns-in-None-place_of-clause-shown
returns-in-None-place_of-clause-shown c =
    let need = c.args.need.now in
    let cached = c.args.cache.now in
    let key = c.args.key.now in
    let shared : KeyPoints = c.deref.result.now in
    let stands : Some shared.rows ≡ cached.snapshot = subst (λ (p : KeyPoints). Some p.rows ≡ cached.snapshot) (sym c.deref.ensures) c.in-Some.ensures.snapshot in
    shown_none need.descending c.args.sources.now.items (frozen_rows need cached key)
    (layer_none need (hides cached.tombs key) (points_at (frozen cached) key) (lacks_key cached key shared stands c.in-None-place_of.ensures.none))

pub between-source-requires-clause-ascending : goal.between-source-requires-clause-ascending
between-source-requires-clause-ascending c =
    subst (λ (p : KeyPoints). AreAscending (rows_at p.rows c.in-Some-place_of.place)) (sym c.in_ok-try_clone.ensures) (run_ascends _ c.in-Some-place_of.place c.in-Some.ensures.each)

pub returns-clause-shown : goal.returns-clause-shown
returns-clause-shown c =
    let need = c.args.need.now in
    let cached = c.args.cache.now in
    let key = c.args.key.now in
    let shared : KeyPoints = c.deref.result.now in
    let stands : Some shared.rows ≡ cached.snapshot = subst (λ (p : KeyPoints). Some p.rows ≡ cached.snapshot) (sym c.deref.ensures) c.in-Some.ensures.snapshot in
    let covered = subst (λ (h : List TombRange). (time : ℤ) → Covers h time ↔ Hides cached.tombs key time) (sym c.in_ok-hidden.ensures.items)
    (subst (λ (ts : List Tomb). (time : ℤ) → Covers c.ranges-2.result.now time ↔ Hides ts key time) c.snapshot_tombs.ensures c.ranges-2.ensures.covered) in
    let is = snapshot_source need cached key c.in-Some-place_of.place _ shared c.in_ok-hidden.hidden.items c.between-source.result c.between-source.ensures (c.in_ok-try_clone.ensures ∙ sym c.deref.ensures) c.in-Some-place_of.ensures.found stands covered in
    shown_pushed need.descending c.args.sources.now.items c.push.new.self.items c.between-source.result (frozen_rows need cached key) c.in_ok-push.ensures.items is

pub returns-clause-ordered : goal.returns-clause-ordered
returns-clause-ordered c =
    let need = c.args.need.now in
    let cached = c.args.cache.now in
    let key = c.args.key.now in
    let shared : KeyPoints = c.deref.result.now in
    let stands : Some shared.rows ≡ cached.snapshot = subst (λ (p : KeyPoints). Some p.rows ≡ cached.snapshot) (sym c.deref.ensures) c.in-Some.ensures.snapshot in
    let covered = subst (λ (h : List TombRange). (time : ℤ) → Covers h time ↔ Hides cached.tombs key time) (sym c.in_ok-hidden.ensures.items)
    (subst (λ (ts : List Tomb). (time : ℤ) → Covers c.ranges-2.result.now time ↔ Hides ts key time) c.snapshot_tombs.ensures c.ranges-2.ensures.covered) in
    let is = snapshot_source need cached key c.in-Some-place_of.place _ shared c.in_ok-hidden.hidden.items c.between-source.result c.between-source.ensures (c.in_ok-try_clone.ensures ∙ sym c.deref.ensures) c.in-Some-place_of.ensures.found stands covered in
    let each : AllByRecursion IsRun shared.rows = subst (λ (p : KeyPoints). AllByRecursion IsRun p.rows) (sym c.deref.ensures) c.in-Some.ensures.each in
    let all : AllByRecursion IsRun (frozen cached) = subst (λ (o : Option (List KeyRun)). AllByRecursion IsRun (option_map_or (λ (runs : List KeyRun). runs) o [])) stands each in
    ordered_pushed need.descending c.args.sources.now.items c.push.new.self.items c.between-source.result c.in_ok-push.ensures.items c.requires
    (subst (AreInOrder need.descending) (sym is) (layer_ordered need ([], []) (hides cached.tombs key) (points_at (frozen cached) key) (points_ascend (frozen cached) key all)))
