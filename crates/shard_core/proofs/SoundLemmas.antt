-- The entries past the floor can be read again.
use Rattle.std.proofs.Common.{◌≡◌, ⊎_elim, inl, inr, ℕ, ◌-◌, arith, Bool, true, false, ◌||◌, List, [], ◌∷◌, ◌++◌, map, drop, length, length-append, ◌∙◌, ap, sym, refl, subst, Option, Some, None, append_assoc, drop_at}
use Rattle.std.specs.List.{AllByRecursion}
use Rattle.std.proofs.lemmas.List.{drop-append-le, map-append}
use Rattle.std.proofs.lemmas.Bool.{cases_Bool}
use Rattle.tsdb_types.specs.declared.point.Cell.{Cell}
use Rattle.tsdb_types.specs.declared.value.Value.{Value}
use Rattle.tsdb_types.specs.Values.{kind_of}
use Rattle.point_model.specs.declared.entry.Entry.{Entry}
use Rattle.point_model.specs.declared.entry.Entry.TheVariants.{Write, Delete}
use Rattle.point_model.specs.Histories.{after}
use Rattle.point_model.specs.Points.{value_at}
use Rattle.point_model.proofs.EffectLemmas.{applied_or, effects-append}
use Rattle.point_model.proofs.FieldLemmas.{same_field}
use Rattle.point_model.specs.Contents.{Content, acted, overlay}
use Rattle.point_model.specs.Effects.{Effect, applied, effect, effects, is_deleted_by}
use Rattle.shard_core.specs.Contents.{held, left}
use Rattle.shard_core.specs.DiskEvents.{RecordsFiles, name_some}
use Rattle.shard_core.specs.EntryEvents.{Deletes, Writes}
use Rattle.shard_core.specs.Kinds.{HasLive, KindsAgree, OneKind}
use Rattle.shard_core.specs.MergeEvents.{EndsMerge}
use Rattle.shard_core.specs.Parts.{FileIsCut, IfSnapshotIs, StandsInParts, SnapshotIs}
use Rattle.shard_core.specs.SnapshotEvents.{EndsSnapshot, IsFileOf, name_all, without_snapshot}
use Rattle.shard_core.specs.Files.{content_in, now_of, on_disk, stored_of}
use Rattle.shard_core.specs.Shown.{image_of, snapshot_contents}
use Rattle.shard_core.specs.State.{Core, File, Snapshot, points_now}
use Rattle.shard_core.specs.Taken.{AcceptsFields, Admits, AdmitsAll, Below, EntriesTaken, IsReadableImage}
use Rattle.shard_core.proofs.ImageLemmas.{deleted-append, ends_deleted, entries_are}
use Rattle.shard_core.proofs.KindLemmas.{Within, disk_all, disk_cut, live_either, live_left, live_right, live_shows, made_within, merge_disk_within, overlay_live, within_disk, within_named}
use Rattle.shard_core.proofs.ListLemmas.{map_of_map}
use Rattle.shard_core.proofs.PartLemmas.{effects_more, value_more}
use Rattle.shard_core.proofs.Standing.{Standing}

acted_below : (first second : Content) (entry : Entry) → Below first second → Below (acted entry first) (acted entry second)
acted_below first second entry below cell value e = by (effect entry cell) e
  where
    by : (o : Effect) → applied o (first cell) ≡ Some value → (other : Value) × (applied o (second cell) ≡ Some other) × (kind_of other ≡ kind_of value)
    by None e = below cell value e
    by (Some o) e = (value, e, refl)

pub takes_entry_below : (first second : Content) (entry : Entry) → Below first second → Admits second entry → Admits first entry
takes_entry_below first second (Write client points) below takes = record {
  accepted = λ cell value e point among same. let other = below cell value e in sym other.2 ∙ takes.accepted cell other.0 other.1 point among same;
  one_kind = takes.one_kind;
}
takes_entry_below first second (Delete client deletion) below takes = tt

pub takes_below : (first second : Content) (entries : List Entry) → Below first second → AdmitsAll second entries → AdmitsAll first entries
takes_below first second [] below takes = tt
takes_below first second (entry ∷ entries) below takes =
    (takes_entry_below first second entry below takes.0, takes_below (acted entry first) (acted entry second) entries (acted_below first second entry below) takes.1)

left_first : (content : Content) (entry : Entry) (entries : List Entry) (cell : Cell) → left (entry ∷ entries) content cell ≡ left entries (acted entry content) cell
left_first content entry entries cell = applied_or (effect entry cell) (effects entries cell) (content cell)

pub same_below : (first second : Content) → ((cell : Cell) → first cell ≡ second cell) → Below first second
same_below first second same cell value e = (value, sym (same cell) ∙ e, refl)

pub takes_more : (content : Content) (entries : List Entry) (entry : Entry) → AdmitsAll content entries → Admits (left entries content) entry → AdmitsAll content (entries ++ entry ∷ [])
takes_more content [] entry takes last = (last, tt)
takes_more content (first ∷ entries) entry takes last = (
  takes.0,
  takes_more (acted first content) entries entry takes.1
      (takes_entry_below (left entries (acted first content)) (left (first ∷ entries) content) entry (same_below (left entries (acted first content)) (left (first ∷ entries) content) (λ cell. sym (left_first content first entries cell))) last),
)

pub takes_later : (content : Content) (first second : List Entry) → AdmitsAll content (first ++ second) → AdmitsAll (left first content) second
takes_later content [] second takes = takes
takes_later content (entry ∷ first) second takes =
    takes_below (left (entry ∷ first) content) (left first (acted entry content)) second (same_below (left (entry ∷ first) content) (left first (acted entry content)) (left_first content entry first))
    (takes_later (acted entry content) first second takes.1)

-- an entry more in the image
entries_more : (core : Core) → Standing core → (entry : Entry) → drop (core.floor - core.origin) (core.past ++ (core.history ++ entry ∷ [])) ≡ (image_of core).entries ++ entry ∷ []
entries_more core inv entry =
    ap (drop (core.floor - core.origin)) (sym (append_assoc core.past core.history (entry ∷ [])))
    ∙ drop-append-le (core.floor - core.origin) (core.past ++ core.history) (entry ∷ [])
    (let parts = inv.parts in
    let a = ap (λ (es : List Entry). length es) parts.joined in
    let b = length-append parts.settled (parts.first ++ parts.second) in
    let c = parts.floor in
    omega arith)

leads_more : (core : Core) → Standing core → (taken : EntriesTaken core) (entry : Entry) (cell : Cell)
    → applied (effects (drop (core.floor - core.origin) (core.past ++ (core.history ++ entry ∷ []))) cell) (taken.base cell) ≡ value_at (after core.start.points (core.history ++ entry ∷ [])) cell
leads_more core inv taken entry cell =
    ap (λ (es : List Entry). applied (effects es cell) (taken.base cell)) (entries_more core inv entry)
    ∙ effects_more (image_of core).entries entry cell (taken.base cell)
    ∙ ap (λ (o : Option Value). applied (effect entry cell) o) (taken.leads cell)
    ∙ sym (value_more core.start.points core.history entry cell)

takes_with : (core : Core) → Standing core → (taken : EntriesTaken core) (entry : Entry) → Admits (λ cell. value_at (after core.start.points core.history) cell) entry
    → AdmitsAll taken.base (drop (core.floor - core.origin) (core.past ++ (core.history ++ entry ∷ [])))
takes_with core inv taken entry takes =
    subst (AdmitsAll taken.base) (sym (entries_more core inv entry))
    (takes_more taken.base (image_of core).entries entry taken.takes
    (takes_entry_below (left (image_of core).entries taken.base) (λ cell. value_at (after core.start.points core.history) cell) entry (same_below (left (image_of core).entries taken.base) (λ cell. value_at (after core.start.points core.history) cell) taken.leads) takes))

pub write_taken : (old new : Core) → (writes : Writes old new) → AcceptsFields (held (points_now old)) writes.points → Standing old → EntriesTaken old → EntriesTaken new
write_taken old new writes accepts inv taken =
    subst EntriesTaken (sym writes.same)
    record {
      base = taken.base;
      takes = takes_with old inv taken (Write writes.client writes.points) accepts;
      below = taken.below;
      leads = leads_more old inv taken (Write writes.client writes.points);
    }

pub delete_taken : (old new : Core) → Deletes old new → Standing old → EntriesTaken old → EntriesTaken new
delete_taken old new deletes inv taken =
    subst EntriesTaken (sym deletes.same)
    record {
      base = taken.base;
      takes = takes_with old inv taken (Delete deletes.client deletes.deletion) tt;
      below = subst (λ (ls : List Content). Below (overlay ls) taken.base) (sym (disk_cut deletes.deletion old.files)) taken.below;
      leads = leads_more old inv taken (Delete deletes.client deletes.deletion);
    }

-- contents with no live cell but those of others
pub below_within : (contents others : List Content) (base : Content) → Within contents others → OneKind others → Below (overlay others) base → Below (overlay contents) base
below_within contents others base within kinds below cell value e =
    let has = within cell value (overlay_live contents cell value e) in
    let shown = live_shows others cell value has in
    let under = below cell shown.0 shown.1 in
    (under.0, under.1, under.2 ∙ kinds cell cell shown.0 value (overlay_live others cell shown.0 shown.1) has (same_field cell cell refl refl))

pub end_merge_taken : (old new : Core) → EndsMerge old new → Standing old → KindsAgree old → EntriesTaken old → EntriesTaken new
end_merge_taken old new ends inv kinds taken =
    let after_files = ends.before ++ (ends.made ++ ends.behind) in
    let before_files = ends.before ++ (ends.merge.sources ++ ends.behind) in
    subst EntriesTaken (sym ends.same)
    record {
      base = taken.base;
      takes = taken.takes;
      below = below_within (map on_disk after_files) (map on_disk before_files) taken.base (merge_disk_within old new ends inv)
          (subst (λ (files : List File). OneKind (map on_disk files)) ends.placed kinds.disk) (subst (λ (files : List File). Below (overlay (map on_disk files)) taken.base) ends.placed taken.below);
      leads = taken.leads;
    }

pub record_taken : (old new : Core) → RecordsFiles old new → Standing old → KindsAgree old → EntriesTaken old → EntriesTaken new
record_taken old new records inv kinds taken =
    let parts = inv.parts in
    subst EntriesTaken (sym records.same)
    record {
      base = taken.base;
      takes = taken.takes;
      below = below_within (map on_disk (map (name_some records.chosen records.tombs) old.files)) (map on_disk old.files) taken.base
          (within_named records.chosen records.tombs (parts.first ++ parts.second) old.files parts.files) kinds.disk taken.below;
      leads = taken.leads;
    }

applied_some : (e : Effect) (base : Option Value) (value : Value) → applied e None ≡ Some value → applied e base ≡ Some value
applied_some None base value is = absurd (cc)
applied_some (Some o) base value is = is

left_false : (a b : Bool) → (a || b) ≡ false → a ≡ false
left_false true b e = e
left_false false b e = refl

right_false : (a b : Bool) → (a || b) ≡ false → b ≡ false
right_false true b e = absurd (cc)
right_false false b e = e

true_false : (b : Bool) → b ≡ true → b ≡ false → ⊥
true_false b t f = let e = sym t ∙ f in cc

some_none : (o : Option Value) (value : Value) → o ≡ Some value → o ≡ None → ⊥
some_none o value s n = let e = sym s ∙ n in cc

-- a file's live cell is one that no deletion past the floor takes away
live_kept : (entries : List Entry) (files : List File) → AllByRecursion (FileIsCut entries) files → (cell : Cell) (value : Value) → HasLive (map now_of files) cell value → is_deleted_by entries cell ≡ false
live_kept entries [] follow cell value has = absurd has
live_kept entries (file ∷ files) follow cell value (inl is) =
    ⊎_elim (λ deleted. absurd (let own = follow.0 in some_none (file.now cell) value is (own.hidden cell deleted))) (λ kept. kept) (cases_Bool (is_deleted_by entries cell))
live_kept entries (file ∷ files) follow cell value (inr has) = live_kept entries files follow.1 cell value has

module _ (old : Core) (inv : Standing old) (kinds : KindsAgree old) (taken : EntriesTaken old) (snapshot : Snapshot) (out : old.snapshot ≡ Some snapshot) where
  abbrev parts : StandsInParts old
  parts = inv.parts

  abbrev is_snapshot : SnapshotIs old.floor parts.first parts.second snapshot
  is_snapshot = subst (λ (s : Option Snapshot). IfSnapshotIs old.floor parts.first parts.second s) out parts.snapshot

  kinds_now : OneKind (map now_of old.files ++ (snapshot_contents (Some snapshot) ++ held old.cache ∷ []))
  kinds_now = subst (λ (s : Option Snapshot). OneKind (map now_of old.files ++ (snapshot_contents s ++ held old.cache ∷ []))) out kinds.now

  abbrev base_now : Content
  base_now = left parts.first taken.base

  -- a snapshot's live cell is what the first entries leave
  snapshot_live : (cell : Cell) → is_deleted_by parts.second cell ≡ false → snapshot.now cell ≡ applied (effects parts.first cell) None
  snapshot_live cell kept =
      let follows = is_snapshot.follows in
      follows.kept cell kept ∙ is_snapshot.points cell

  of_snapshot : (cell : Cell) (value : Value) → snapshot.now cell ≡ Some value → (other : Value) × (base_now cell ≡ Some other) × (kind_of other ≡ kind_of value)
  of_snapshot cell value is =
      let follows = is_snapshot.follows in
      let kept = ⊎_elim (λ deleted. absurd (some_none (snapshot.now cell) value is (follows.hidden cell deleted))) (λ kept. kept) (cases_Bool (is_deleted_by parts.second cell)) in
      (value, applied_some (effects parts.first cell) (taken.base cell) value (sym (snapshot_live cell kept) ∙ is), refl)

  of_files : (cell : Cell) (value : Value) → HasLive (map now_of old.files) cell value → (other : Value) × (base_now cell ≡ Some other) × (kind_of other ≡ kind_of value)
  of_files cell value has = by (effects parts.first cell) refl
    where
      kept : is_deleted_by (parts.first ++ parts.second) cell ≡ false
      kept = live_kept (parts.first ++ parts.second) old.files parts.files cell value has

      either : (is_deleted_by parts.first cell || is_deleted_by parts.second cell) ≡ false
      either = sym (deleted-append parts.first parts.second cell) ∙ kept

      under : (other : Value) × (taken.base cell ≡ Some other) × (kind_of other ≡ kind_of value)
      under =
          let disk = within_disk (parts.first ++ parts.second) old.files parts.files cell value has in
          let shown = live_shows (map on_disk old.files) cell value disk in
          let below = taken.below cell shown.0 shown.1 in
          (below.0, below.1, below.2 ∙ kinds.disk cell cell shown.0 value (overlay_live (map on_disk old.files) cell shown.0 shown.1) disk (same_field cell cell refl refl))

      by : (e : Effect) → effects parts.first cell ≡ e → (other : Value) × (base_now cell ≡ Some other) × (kind_of other ≡ kind_of value)
      by None e = (under.0, ap (λ (f : Effect). applied f (taken.base cell)) e ∙ under.1, under.2)
      by (Some None) e = absurd (true_false (is_deleted_by parts.first cell) (ends_deleted parts.first cell e) (left_false (is_deleted_by parts.first cell) (is_deleted_by parts.second cell) either))
      by (Some (Some other)) e =
          let there = snapshot_live cell (right_false (is_deleted_by parts.first cell) (is_deleted_by parts.second cell) either) ∙ ap (λ (f : Effect). applied f None) e in (
            other,
            ap (λ (f : Effect). applied f (taken.base cell)) e,
            kinds_now cell cell other value (live_right (map now_of old.files) (snapshot.now ∷ held old.cache ∷ []) cell other (inl there))
                (live_left (map now_of old.files) (snapshot.now ∷ held old.cache ∷ []) cell value has) (same_field cell cell refl refl),
          )

  entries_now : drop (snapshot.number - old.origin) (old.past ++ old.history) ≡ parts.second
  entries_now =
      ap (drop (snapshot.number - old.origin)) (parts.joined ∙ sym (append_assoc parts.settled parts.first parts.second))
      ∙ drop_at (parts.settled ++ parts.first) parts.second (snapshot.number - old.origin)
      (let a = is_snapshot.counted in let b = parts.floor in let c = length-append parts.settled parts.first in omega arith)

  pub snapshot_taken : (made : List File) → IsFileOf snapshot made → (tombs : File → Option ℕ) (replaced : List ℕ) → EntriesTaken (without_snapshot snapshot made tombs replaced old)
  snapshot_taken made is_made tombs replaced = record {
    base = base_now;
    takes = subst (AdmitsAll base_now) (sym entries_now) (takes_later taken.base parts.first parts.second (subst (AdmitsAll taken.base) (entries_are old inv) taken.takes));
    below = λ cell value e.
        let ls = map on_disk (map (name_all tombs) old.files ++ made) in
        let has = subst (λ (l : List Content). HasLive l cell value) (map-append on_disk (map (name_all tombs) old.files) made ∙ ap (λ (l : List Content). l ++ map on_disk made) (disk_all tombs old.files))
        (overlay_live ls cell value e) in
        ⊎_elim (λ f. of_files cell value f) (λ m. ⊎_elim (λ s. of_snapshot cell value s) (λ none. absurd none) (made_within snapshot made is_made on_disk (λ number tomb. refl) cell value m))
        (live_either (map now_of old.files) (map on_disk made) cell value has);
    leads = λ cell.
        ap (λ (es : List Entry). applied (effects es cell) (base_now cell)) entries_now
        ∙ sym (applied_or (effects parts.first cell) (effects parts.second cell) (taken.base cell))
        ∙ ap (λ (f : Effect). applied f (taken.base cell)) (sym (effects-append parts.first parts.second cell))
        ∙ ap (λ (es : List Entry). applied (effects es cell) (taken.base cell)) (sym (entries_are old inv))
        ∙ taken.leads cell;
  }

pub end_snapshot_taken : (old new : Core) → EndsSnapshot old new → Standing old → KindsAgree old → EntriesTaken old → EntriesTaken new
end_snapshot_taken old new ends inv kinds taken =
    subst EntriesTaken (sym ends.same) (snapshot_taken old inv kinds taken ends.snapshot ends.stands ends.made ends.is_made ends.tombs ends.replaced)

pub image_sound : (core : Core) → KindsAgree core → EntriesTaken core → IsReadableImage (image_of core)
image_sound core kinds taken =
    let same = map_of_map stored_of content_in on_disk (λ file. refl) core.files in
    record {
      kinds = subst OneKind (sym same) kinds.disk;
      takes = subst (λ (cs : List Content). AdmitsAll (overlay cs) (image_of core).entries) (sym same)
          (takes_below (overlay (map on_disk core.files)) taken.base (image_of core).entries taken.below taken.takes);
    }
