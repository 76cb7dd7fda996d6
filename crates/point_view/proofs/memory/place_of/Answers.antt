-- The keys of a snapshot ascend, so a search finds the one place of a key.
use Rattle.std.proofs.Common.{◌≡◌, List, [], get_or, inl, inr, sym, ap, ◌∙◌, subst, arith, rules, of_calls}
use Rattle.std.specs.Ordering.{nat_cmp, ordering_index}
use Rattle.std.specs.Cmp.Lexicographic.{slice_cmp, nat_list_cmp_total}
use Rattle.std.specs.List.Sorted.{IsNonDecreasingBy}
use Rattle.std.proofs.lemmas.Bool.{cases_lt}
use Rattle.std.proofs.lemmas.Fn.{always_returns_same}
use Rattle.std.proofs.lemmas.List.Sorted.{searchable_from_sorted}
use Rattle.std.proofs.lemmas.Option.{get_or_from_slice_get}
use Rattle.point_cache.specs.declared.key_points.KeyRun.{KeyRun}
use Rattle.point_cache.specs.Cached.{KeysAscend, points_at}
use Rattle.point_view.specs.Sources.{rows_at}
use Rattle.point_view.proofs.LayerLemmas.{item_at, key_there, no_key, not_above, not_below, sorted_by_key, tied_key}
use Rattle.point_view.proofs.memory.place_of.Goals as goal

pub returns-in-Ok-clause-found : goal.returns-in-Ok-clause-found
returns-in-Ok-clause-found c =
    let rows : List KeyRun = c.as_slice-rows.result.now in
    let key = c.args.key.now in
    let k = c.in-Ok.place in
    let ascend : KeysAscend rows = subst KeysAscend (sym c.as_slice-rows.ensures) c.requires in
    let some = item_at rows k c.in-Ok.ensures.bound in
    let run : KeyRun = some.0 in
    let tied = c.in-Ok.ensures.position (λ (r : KeyRun). slice_cmp nat_cmp r.key key) (always_returns_same _ _ _ (λ a r f q. search (rules, of_calls))) run in
    let same : get_or rows k run ≡ run = get_or_from_slice_get rows k run run some.1 in
    subst (λ (l : List KeyRun). rows_at l k ≡ points_at l key) c.as_slice-rows.ensures
    (key_there rows k run key some.1 (tied_key run.key key (ap (λ (r : KeyRun). slice_cmp nat_cmp r.key key) (sym same) ∙ tied)) ascend)

pub returns-in-Err-clause-none : goal.returns-in-Err-clause-none
returns-in-Err-clause-none c =
    let rows : List KeyRun = c.as_slice-rows.result.now in
    let key = c.args.key.now in
    let place = c.in-Err.field-0 in
    let ascend : KeysAscend rows = subst KeysAscend (sym c.as_slice-rows.ensures) c.requires in
    let rising : IsNonDecreasingBy (λ (r : KeyRun). ordering_index (slice_cmp nat_cmp r.key key)) rows =
    searchable_from_sorted nat_list_cmp_total (λ (r : KeyRun). r.key) rows key (sorted_by_key rows ascend) in
    let point = c.in-Err.ensures.position (λ (r : KeyRun). slice_cmp nat_cmp r.key key) (always_returns_same _ _ _ (λ a r f q. search (rules, of_calls))) rising in
    subst (λ (l : List KeyRun). points_at l key ≡ []) c.as_slice-rows.ensures
    (no_key rows key (λ k d inside same. elim (cases_lt k place) [
      | inl below ↦ not_below (get_or rows k d).key key (point.0 k d (omega arith) below) same
      | inr from ↦ not_above (get_or rows k d).key key (point.1 k d from inside) same
    ]))
