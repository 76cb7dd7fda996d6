-- The rows that are taken of a layer.
use Rattle.std.proofs.Common.{◌≡◌, ◌∙◌, ap, ap₂, sym, refl, subst, ℕ, zero, suc, ◌<◌, ℤ, ◌<ℤ◌, Bool, true, false, cond, T, List, [], ◌∷◌, ◌++◌, length, map, reverse, take, drop, get_or, ◌+◌, filter, Option, Some, None, Less, Equal, Greater, arith}
use Rattle.std.specs.Prelude.{not, ◌&&◌, ◌==◌, ◌↔◌, All, IfSome, slice_get, nat_eq}
use Rattle.std.specs.Cmp.{int_cmp_is}
use Rattle.std.specs.Cmp.Lexicographic.{nat_list_cmp_total, pointwise, slice_cmp}
use Rattle.std.specs.FinMap.Entries.{below_all, is_sorted}
use Rattle.std.specs.List.{AllByRecursion}
use Rattle.std.specs.List.Sorted.{IsSortedBy, IsStrictlySortedBy}
use Rattle.std.specs.Map.{keys_of}
use Rattle.std.specs.Option.{option_map, option_map_or}
use Rattle.std.specs.Ordering.{int_cmp, int_eq, is_eq, is_lt, nat_cmp, ordering_reverse}
use Rattle.std.proofs.lemmas.Bool.Decides.{nat_tests}
use Rattle.std.proofs.lemmas.Cmp.{tied_itself}
use Rattle.std.proofs.lemmas.List.{reverse-append, take_all}
use Rattle.std.proofs.lemmas.List.Elements.{All-append, All-from_recursion, filter-append}
use Rattle.std.proofs.lemmas.Map.Keys.{sorted_head, sorted_tail}
use Rattle.std.proofs.lemmas.Map.Text.{is_eq-slice_cmp}
use Rattle.std.proofs.lemmas.Option.{get_or_from_slice_get, slice_get_within}
use Rattle.std.proofs.lemmas.Slice.Eq.{bytes_eq-Decides}
use Rattle.tsdb_types.specs.Keys.{key_of}
use Rattle.tsdb_types.specs.declared.point.Cell.{Cell}
use Rattle.tsdb_types.specs.declared.value.Value.{Value}
use Rattle.tombstones.specs.declared.range.TombRange.{TombRange}
use Rattle.tombstones.specs.Covered.{Hides, Tomb, hides}
use Rattle.tombstones.specs.Ranges.{Covers}
use Rattle.point_model.specs.declared.need.Need.{Need}
use Rattle.point_model.specs.Cursors.{Key, in_order, rows_needed}
use Rattle.point_model.specs.Points.{Points, cell_cmp, value_at}
use Rattle.point_model.specs.Rows.{Row}
use Rattle.merge_cursor.specs.Overlays.{AreInOrder, overlay, time_cmp, value_of, with_rows}
use Rattle.merge_cursor.proofs.OrderLemmas.{sorted_fact, t_both, t_less}
use Rattle.merge_cursor.proofs.NestLemmas.{overlay_nests}
use Rattle.merge_cursor.proofs.StepLemmas.{none_after, same_time}
use Rattle.point_cache.specs.declared.key_points.KeyPoints.{KeyPoints}
use Rattle.point_cache.specs.declared.key_points.KeyRun.{KeyRun}
use Rattle.point_cache.specs.Cached.{AreAscending, Cached, IsRun, KeysAscend, later, latest, points_at, rows_within}
use Rattle.point_cache.proofs.LatestLemmas.{later-none}
use Rattle.point_cache.proofs.EntryLemmas.{key_same, same_key}
use Rattle.point_view.specs.Layers.{cache_content, cached_rows, frozen, frozen_rows, key_rows, layer_rows, memory_content, snapshot_content}
use Rattle.point_view.specs.Sources.{bare, is_covered, rows_at}
use Rattle.point_view.specs.Seen.{is_asked}
use Rattle.point_view.proofs.CoverLemmas.{covered_hidden}
use Rattle.point_view.proofs.SeenLemmas

-- ---- filters

pub filter_reverse : (p : Row → Bool) (rows : List Row) → filter p (reverse rows) ≡ reverse (filter p rows)
filter_reverse p [] = refl
filter_reverse p (row ∷ rows) =
    ap (λ (l : List Row). filter p l) (reverse-append (row ∷ []) rows)
    ∙ filter-append p (reverse rows) (row ∷ [])
    ∙ ap (λ (l : List Row). l ++ filter p (row ∷ [])) (filter_reverse p rows)
    ∙ (elim (p row) as (λ b. reverse (filter p rows) ++ cond b (row ∷ []) [] ≡ reverse (cond b (row ∷ filter p rows) (filter p rows))) [
      | true ↦ sym (reverse-append (row ∷ []) (filter p rows))
      | false ↦ append_nil (reverse (filter p rows))
    ])
  where
    append_nil : (l : List Row) → l ++ [] ≡ l
    append_nil [] = refl
    append_nil (x ∷ l) = ap (λ (m : List Row). x ∷ m) (append_nil l)

pub filter_both : (p q : Row → Bool) (rows : List Row) → filter q (filter p rows) ≡ filter (λ (row : Row). p row && q row) rows
filter_both p q [] = refl
filter_both p q (row ∷ rows) =
    elim (p row) as (λ b. filter q (cond b (row ∷ filter p rows) (filter p rows)) ≡ cond (b && q row) (row ∷ filter (λ (r : Row). p r && q r) rows) (filter (λ (r : Row). p r && q r) rows)) [
      | true ↦ ap (λ (l : List Row). cond (q row) (row ∷ l) l) (filter_both p q rows)
      | false ↦ filter_both p q rows
    ]

pub filter_same : (p q : Row → Bool) (rows : List Row) → ((row : Row) → p row ≡ q row) → filter p rows ≡ filter q rows
filter_same p q [] same = refl
filter_same p q (row ∷ rows) same = ap₂ (λ (b : Bool) (l : List Row). cond b (row ∷ l) l) (same row) (filter_same p q rows same)

-- ---- rows of a layer

-- what lies in none of the ranges, of the rows that are asked for
pub bare_rows : (need : Need) (ranges : List TombRange) (hidden : ℤ → Bool) (rows : List Row) → ((time : ℤ) → is_covered ranges time ≡ hidden time)
    → bare ranges (in_order need.descending (rows_within need.from need.to rows)) ≡ layer_rows need hidden rows
bare_rows need ranges hidden rows same =
    turned need.descending (rows_within need.from need.to rows)
    ∙ ap (λ (l : List Row). in_order need.descending l)
    (filter_both (λ (row : Row). is_asked need row.0) (λ (row : Row). not (is_covered ranges row.0)) rows
    ∙ filter_same (λ (row : Row). is_asked need row.0 && not (is_covered ranges row.0)) (λ (row : Row). is_asked need row.0 && not (hidden row.0)) rows
    (λ row. ap (λ (b : Bool). is_asked need row.0 && not b) (same row.0)))
  where
    turned : (descending : Bool) (l : List Row) → bare ranges (in_order descending l) ≡ in_order descending (bare ranges l)
    turned false l = refl
    turned true l = filter_reverse (λ (row : Row). not (is_covered ranges row.0)) l

less_of : (a b : ℤ) → a <ℤ b → int_cmp a b ≡ Less
less_of a b h = sym (int_cmp_is a b Less h)

below : (time : ℤ) (rows : List Row) → AllByRecursion (λ (behind : Row). time <ℤ behind.0) rows → T (below_all (time_cmp false) time rows)
below time [] all = tt
below time (row ∷ rows) all = t_both _ (below_all (time_cmp false) time rows) (t_less (int_cmp time row.0) (less_of time row.0 all.0)) (below time rows all.1)

rising : (rows : List Row) → AreAscending rows → T (is_sorted (time_cmp false) rows)
rising [] ascend = tt
rising (row ∷ rows) ascend = t_both (below_all (time_cmp false) row.0 rows) (is_sorted (time_cmp false) rows) (below row.0 rows ascend.0) (rising rows ascend.1)

pub in_order_of : (rows : List Row) → AreAscending rows → AreInOrder false rows
in_order_of rows ascend = sorted_fact (time_cmp false) rows (rising rows ascend)

-- of points that ascend the last at a time is the only one
pub latest_is : (rows : List Row) (time : ℤ) → AreInOrder false rows → latest rows time ≡ value_of rows time
latest_is [] time order = refl
latest_is (row ∷ rows) time order =
    ap (λ (o : Option Value). later (cond (int_eq time row.0) (Some row.1) None) o) (latest_is rows time (sorted_tail (time_cmp false) row.0 (keys_of rows) order))
    ∙ (elim (int_eq time row.0) as (λ b. int_eq time row.0 ≡ b → later (cond b (Some row.1) None) (value_of rows time) ≡ cond b (Some row.1) (value_of rows time)) [
      | true ↦ λ e. ap (λ (o : Option Value). later (Some row.1) o)
          (none_after false time rows (subst (λ (t : ℤ). AllByRecursion (λ (y : ℤ). time_cmp false t y ≡ Less) (keys_of rows)) (sym (same_time time row.0 e)) (sorted_head (time_cmp false) row.0 (keys_of rows) order)))
      | false ↦ λ e. later-none (value_of rows time)
    ] refl)

-- rows of a layer are in the order that is asked for
pub layer_ordered : (need : Need) (key : Key) (hidden : ℤ → Bool) (rows : List Row) → AreAscending rows → AreInOrder need.descending (layer_rows need hidden rows)
layer_ordered need key hidden rows ascend =
    let law = SeenLemmas.views_see in
    let are = law.layer need key (λ cell. cond (hidden cell.time) None (value_of rows cell.time)) hidden rows (in_order_of rows ascend) (λ time. refl) in
    are.ordered

-- ---- sources without rows

-- a source without rows shows nothing
pub overlay_empty : (descending : Bool) (sources : List (List Row)) → overlay descending (sources ++ [] ∷ []) ≡ overlay descending sources
overlay_empty descending [] = refl
overlay_empty descending (rows ∷ sources) = ap (λ (l : List Row). with_rows descending rows l) (overlay_empty descending sources)

-- ---- sources that are put behind others

pub shown_none : (descending : Bool) (sources : List (List Row)) (rows : List Row) → rows ≡ [] → overlay descending sources ≡ overlay descending (sources ++ rows ∷ [])
shown_none descending sources rows none = sym (overlay_empty descending sources) ∙ ap (λ (r : List Row). overlay descending (sources ++ r ∷ [])) (sym none)

pub shown_pushed : (descending : Bool) (old new : List (List Row)) (source rows : List Row) → new ≡ old ++ source ∷ [] → source ≡ rows → overlay descending new ≡ overlay descending (old ++ rows ∷ [])
shown_pushed descending old new source rows pushed is = ap (λ (l : List (List Row)). overlay descending l) (pushed ∙ ap (λ (r : List Row). old ++ r ∷ []) is)

pub ordered_pushed : (descending : Bool) (old new : List (List Row)) (source : List Row) → new ≡ old ++ source ∷ [] → All (AreInOrder descending) old → AreInOrder descending source → All (AreInOrder descending) new
ordered_pushed descending old new source pushed ordered own =
    subst (All (AreInOrder descending)) (sym pushed) (All-append (AreInOrder descending) old (source ∷ []) ordered (All-from_recursion (AreInOrder descending) (source ∷ []) (own, tt)))

-- a layer without points
pub layer_none : (need : Need) (hidden : ℤ → Bool) (points : List Row) → points ≡ [] → layer_rows need hidden points ≡ []
layer_none need hidden points none = ap (λ (l : List Row). layer_rows need hidden l) none ∙ empty need.descending
  where
    empty : (descending : Bool) → in_order descending [] ≡ []
    empty true = refl
    empty false = refl

-- the source of a copy of the points that are asked for
pub cached_source : (need : Need) (points rows : List Row) (hidden : List TombRange) (end : ℕ) (source : List Row) → source ≡ bare hidden (in_order need.descending (drop 0 (take end rows)))
    → rows ≡ rows_within need.from need.to points → end ≡ length rows → hidden ≡ [] → source ≡ layer_rows need (λ time. false) points
cached_source need points rows hidden end source is copied whole none =
    let all : take end rows ≡ rows = take_all end rows (omega (arith, whole)) in
    is
    ∙ ap (λ (h : List TombRange). bare h (in_order need.descending (take end rows))) none
    ∙ ap (λ (l : List Row). bare [] (in_order need.descending l)) (all ∙ copied)
    ∙ bare_rows need [] (λ time. false) points (λ time. refl)

-- the source of the points of a snapshot
pub frozen_source : (need : Need) (points : List Row) (hidden : List TombRange) (tombs : List Tomb) (key : List ℕ) (source : List Row)
    → source ≡ bare hidden (in_order need.descending (rows_within need.from need.to points)) → ((time : ℤ) → Covers hidden time ↔ Hides tombs key time) → source ≡ layer_rows need (hides tombs key) points
frozen_source need points hidden tombs key source is same = is ∙ bare_rows need hidden (hides tombs key) points (λ time. covered_hidden hidden tombs key time (same time))

-- a copy of the points of a snapshot that is shared
pub snapshot_source : (need : Need) (cached : Cached) (key : List ℕ) (place : ℕ) (held shared : KeyPoints) (hidden : List TombRange) (source : List Row)
    → source ≡ bare hidden (in_order need.descending (rows_within need.from need.to (rows_at held.rows place))) → held ≡ shared → rows_at shared.rows place ≡ points_at shared.rows key
    → Some shared.rows ≡ cached.snapshot → ((time : ℤ) → Covers hidden time ↔ Hides cached.tombs key time) → source ≡ frozen_rows need cached key
snapshot_source need cached key place held shared hidden source is same found stands covered =
    frozen_source need (rows_at held.rows place) hidden cached.tombs key source is covered
    ∙ ap (λ (l : List Row). layer_rows need (hides cached.tombs key) l)
    (ap (λ (p : KeyPoints). rows_at p.rows place) same ∙ found ∙ ap (λ (o : Option (List KeyRun)). points_at (option_map_or (λ (runs : List KeyRun). runs) o []) key) stands)

-- no snapshot stands, or it lacks the key
pub no_snapshot : (cached : Cached) (key : List ℕ) → None ≡ cached.snapshot → points_at (frozen cached) key ≡ []
no_snapshot cached key stands = ap (λ (o : Option (List KeyRun)). points_at (option_map_or (λ (runs : List KeyRun). runs) o []) key) (sym stands)

pub lacks_key : (cached : Cached) (key : List ℕ) (shared : KeyPoints) → Some shared.rows ≡ cached.snapshot → points_at shared.rows key ≡ [] → points_at (frozen cached) key ≡ []
lacks_key cached key shared stands none = ap (λ (o : Option (List KeyRun)). points_at (option_map_or (λ (runs : List KeyRun). runs) o []) key) (sym stands) ∙ none

-- what holds of the snapshot, where one stands
pub frozen_are : {A : Type 0} (rows : A → List KeyRun) (found : Option A) (snapshot : Option (List KeyRun)) → option_map rows found ≡ snapshot
    → IfSome found (λ a. AllByRecursion IsRun (rows a)) → AllByRecursion IsRun (option_map_or (λ (runs : List KeyRun). runs) snapshot [])
frozen_are rows None snapshot is each = subst (λ (o : Option (List KeyRun)). AllByRecursion IsRun (option_map_or (λ (runs : List KeyRun). runs) o [])) is tt
frozen_are rows (Some a) snapshot is each = subst (λ (o : Option (List KeyRun)). AllByRecursion IsRun (option_map_or (λ (runs : List KeyRun). runs) o [])) is each

pub points_ascend : (runs : List KeyRun) (key : List ℕ) → AllByRecursion IsRun runs → AreAscending (points_at runs key)
points_ascend [] key each = tt
points_ascend (run ∷ runs) key each = elim (pointwise nat_eq key run.key) as (λ b. AreAscending (cond b run.points (points_at runs key))) [
  | true ↦ let own = each.0 in own.ascending
  | false ↦ points_ascend runs key each.1
]

-- sources that were put one behind the other show what their rows show
pub both_shown : (descending : Bool) (none first both : List (List Row)) (cached frozen : List Row) → none ≡ [] → overlay descending first ≡ overlay descending (none ++ cached ∷ [])
    → overlay descending both ≡ overlay descending (first ++ frozen ∷ []) → overlay descending both ≡ overlay descending (cached ∷ frozen ∷ [])
both_shown descending none first both cached frozen empty one two =
    two
    ∙ overlay_nests descending [] first (frozen ∷ [])
    ∙ ap (λ (l : List Row). overlay descending (l ∷ frozen ∷ [])) (one ∙ ap (λ (l : List (List Row)). overlay descending (l ++ cached ∷ [])) empty)
    ∙ sym (overlay_nests descending [] (cached ∷ []) (frozen ∷ []))

-- what cache and snapshot show of a key is what the need asks of the points that they show
pub key_given : (need : Need) (cached : Cached) (points : Points) (key : Key) → IsStrictlySortedBy cell_cmp (keys_of points) → ((cell : Cell) → memory_content cached cell ≡ value_at points cell)
    → AllByRecursion IsRun cached.runs → AllByRecursion IsRun (frozen cached) → key_rows need cached key ≡ rows_needed need points key
key_given need cached points key sorted shows each each_frozen =
    let law = SeenLemmas.views_see in
    let own = key_of key.0 key.1 in
    let rows = points_at cached.runs own in
    let rows' = points_at (frozen cached) own in
    let order = in_order_of rows (points_ascend cached.runs own each) in
    let order' = in_order_of rows' (points_ascend (frozen cached) own each_frozen) in
    law.given need key points (cache_content cached ∷ snapshot_content cached ∷ []) (cached_rows need cached own ∷ frozen_rows need cached own ∷ []) sorted shows (
      law.layer need key (cache_content cached) (λ time. false) rows order (λ time. latest_is rows time order),
      (
        law.layer need key (snapshot_content cached) (hides cached.tombs own) rows' order' (λ time. ap (λ (o : Option Value). cond (hides cached.tombs own time) None o) (latest_is rows' time order')),
        tt,
      ),
    )

pub all_given : (need : Need) (cached : Cached) (points : Points) (keys : List Key) → IsStrictlySortedBy cell_cmp (keys_of points) → ((cell : Cell) → memory_content cached cell ≡ value_at points cell)
    → AllByRecursion IsRun cached.runs → AllByRecursion IsRun (frozen cached) → map (key_rows need cached) keys ≡ map (rows_needed need points) keys
all_given need cached points [] sorted shows each each_frozen = refl
all_given need cached points (key ∷ keys) sorted shows each each_frozen =
    ap₂ (λ (r : List Row) (rs : List (List Row)). r ∷ rs) (key_given need cached points key sorted shows each each_frozen) (all_given need cached points keys sorted shows each each_frozen)

-- no rows by their count
pub no_rows : (rows : List Row) → (length rows == 0) ≡ true → rows ≡ []
no_rows [] e = refl
no_rows (row ∷ rows) e = cc (not_zero (length rows), e)
  where
    not_zero : (n : ℕ) → (suc n == 0) ≡ false
    not_zero n = grind (arith, nat_tests)

-- ---- keys of a snapshot

pub run_ascends : (runs : List KeyRun) (place : ℕ) → AllByRecursion IsRun runs → AreAscending (rows_at runs place)
run_ascends [] place each = tt
run_ascends (run ∷ runs) zero each = let own = each.0 in own.ascending
run_ascends (run ∷ runs) (suc place) each = run_ascends runs place each.1

-- a key isn't below itself, nor above
pub not_below : (a b : List ℕ) → slice_cmp nat_cmp a b ≡ Less → a ≡ b → ⊥
not_below a b less same =
    let tied = tied_itself nat_list_cmp_total b in
    let both : Less ≡ Equal = sym less ∙ ap (λ (k : List ℕ). slice_cmp nat_cmp k b) same ∙ tied in
    cc

pub not_above : (a b : List ℕ) → slice_cmp nat_cmp a b ≡ Greater → a ≡ b → ⊥
not_above a b more same =
    let tied = tied_itself nat_list_cmp_total b in
    let both : Greater ≡ Equal = sym more ∙ ap (λ (k : List ℕ). slice_cmp nat_cmp k b) same ∙ tied in
    cc

pub tied_key : (a b : List ℕ) → slice_cmp nat_cmp a b ≡ Equal → a ≡ b
tied_key a b tied = (bytes_eq-Decides a b).0 (sym (is_eq-slice_cmp a b) ∙ ap is_eq tied)

key_head : (run : KeyRun) (runs : List KeyRun) (key : List ℕ) → run.key ≡ key → points_at (run ∷ runs) key ≡ run.points
key_head run runs key same = ap (λ (b : Bool). cond b run.points (points_at runs key)) (key_same key run.key (sym same))

key_other : (run : KeyRun) (runs : List KeyRun) (key : List ℕ) → (run.key ≡ key → ⊥) → points_at (run ∷ runs) key ≡ points_at runs key
key_other run runs key differ =
    elim (pointwise nat_eq key run.key) as (λ b. pointwise nat_eq key run.key ≡ b → cond b run.points (points_at runs key) ≡ points_at runs key) [
      | true ↦ λ e. absurd (differ (sym (same_key key run.key e)))
      | false ↦ λ e. refl
    ] refl

pub no_key : (runs : List KeyRun) (key : List ℕ) → ((k : ℕ) (d : KeyRun) → k < length runs → (get_or runs k d).key ≡ key → ⊥) → points_at runs key ≡ []
no_key [] key none = refl
no_key (run ∷ runs) key none = key_other run runs key (none 0 run (omega arith)) ∙ no_key runs key (λ k d less. none (suc k) d (omega arith))

key_above : (run : KeyRun) (runs : List KeyRun) → KeysAscend (run ∷ runs) → AllByRecursion (λ (key : List ℕ). slice_cmp nat_cmp run.key key ≡ Less) (map (λ (r : KeyRun). r.key) runs)
key_above run runs ascend = sorted_head (slice_cmp nat_cmp) run.key (map (λ (r : KeyRun). r.key) runs) ascend

key_at : (runs : List KeyRun) (k : ℕ) (d : KeyRun) (P : List ℕ → Type 0) → k < length runs → AllByRecursion P (map (λ (r : KeyRun). r.key) runs) → P (get_or runs k d).key
key_at [] k d P less all = absurd (omega arith)
key_at (run ∷ runs) zero d P less all = all.0
key_at (run ∷ runs) (suc k) d P less all = key_at runs k d P (omega arith) all.1

keys_rise : (runs : List KeyRun) (i j : ℕ) (d : KeyRun) → i < j → j < length runs → KeysAscend runs → slice_cmp nat_cmp (get_or runs i d).key (get_or runs j d).key ≡ Less
keys_rise [] i j d less within ascend = absurd (omega arith)
keys_rise (run ∷ runs) i zero d less within ascend = absurd (omega arith)
keys_rise (run ∷ runs) zero (suc j) d less within ascend = key_at runs j d (λ key. slice_cmp nat_cmp run.key key ≡ Less) (omega arith) (key_above run runs ascend)
keys_rise (run ∷ runs) (suc i) (suc j) d less within ascend =
    keys_rise runs i j d (omega arith) (omega arith) (sorted_tail (slice_cmp nat_cmp) run.key (map (λ (r : KeyRun). r.key) runs) ascend)

-- what a search by key asks
pub sorted_by_key : (runs : List KeyRun) → KeysAscend runs → IsSortedBy (λ (a b : KeyRun). is_lt (slice_cmp nat_cmp a.key b.key)) runs
sorted_by_key runs ascend k d low less =
    let rise = keys_rise runs k (k + 1) d (omega arith) less ascend in
    ap is_lt (nat_list_cmp_total.antisymm (get_or runs (k + 1) d).key (get_or runs k d).key ∙ ap ordering_reverse rise)

-- the points at the place of a key are its points
pub key_there : (runs : List KeyRun) (place : ℕ) (run : KeyRun) (key : List ℕ) → slice_get runs place ≡ Some run → run.key ≡ key → KeysAscend runs → rows_at runs place ≡ points_at runs key
key_there [] place run key at same ascend = absurd (cc at)
key_there (first ∷ runs) zero run key at same ascend =
    let is : first ≡ run = some_run first run at in
    sym (key_head first runs key (ap (λ (r : KeyRun). r.key) is ∙ same))
  where
    some_run : (a b : KeyRun) → Some a ≡ Some b → a ≡ b
    some_run a b e = cc e
key_there (first ∷ runs) (suc place) run key at same ascend =
    let inside : place < length runs = slice_get_within runs place run at in
    let item : get_or runs place run ≡ run = get_or_from_slice_get runs place run run at in
    let above : slice_cmp nat_cmp first.key (get_or runs place run).key ≡ Less = key_at runs place run (λ key. slice_cmp nat_cmp first.key key ≡ Less) inside (key_above first runs ascend) in
    key_there runs place run key at same (sorted_tail (slice_cmp nat_cmp) first.key (map (λ (r : KeyRun). r.key) runs) ascend)
    ∙ sym (key_other first runs key (λ (own : first.key ≡ key). not_below first.key (get_or runs place run).key above (own ∙ sym same ∙ sym (ap (λ (r : KeyRun). r.key) item))))

pub item_at : (runs : List KeyRun) (k : ℕ) → k < length runs → (run : KeyRun) × (slice_get runs k ≡ Some run)
item_at [] k less = absurd (omega arith)
item_at (run ∷ runs) zero less = (run, refl)
item_at (run ∷ runs) (suc k) less = item_at runs k (omega arith)
