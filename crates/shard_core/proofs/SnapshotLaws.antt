-- The end of a snapshot keeps the invariant.
use Rattle.std.proofs.Common.{◌≡◌, ⊎_elim, ℕ, suc, ◌+◌, ◌≤◌, le_refl, arith, Bool, true, false, ◌||◌, List, [], ◌∷◌, ◌++◌, map, length, length-append, ◌∙◌, ap, ap₂, sym, refl, subst, Option, Some, None, append_assoc}
use Rattle.std.specs.Option.{option_or}
use Rattle.std.proofs.lemmas.Bool.{cases_Bool}
use Rattle.std.specs.List.{AllByRecursion}
use Rattle.std.proofs.lemmas.List.{map-append}
use Rattle.tsdb_types.specs.declared.point.Cell.{Cell}
use Rattle.tsdb_types.specs.declared.value.Value.{Value}
use Rattle.point_model.specs.declared.entry.Entry.{Entry}
use Rattle.point_model.specs.declared.entry.Entry.TheVariants.{Write, Delete}
use Rattle.point_model.specs.Deletions.{is_deleted}
use Rattle.point_model.specs.Points.{Points, value_at}
use Rattle.point_model.proofs.EffectLemmas.{overlay-append}
use Rattle.point_model.proofs.StoredLemmas.{no_values}
use Rattle.point_model.specs.Contents.{Content, overlay}
use Rattle.point_model.specs.Effects.{applied, effects, is_deleted_by}
use Rattle.shard_core.specs.Contents.{held}
use Rattle.shard_core.specs.Invariant.{MergeStands, ShowsHistory}
use Rattle.shard_core.specs.Numbers.{AreDisjoint, Climbs, count, held_by_views}
use Rattle.shard_core.specs.Parts.{FileIsCut, IsCutBy, IfSnapshotIs, SnapshotIs}
use Rattle.shard_core.specs.SnapshotEvents.{EndsSnapshot, IsFileOf, Renames, name_all, name_merge, without_snapshot}
use Rattle.shard_core.specs.Files.{generation_of, now_of, file_number, source_numbers}
use Rattle.shard_core.specs.Shown.{snapshot_contents}
use Rattle.shard_core.specs.State.{Core, File, Merge, Snapshot}
use Rattle.shard_core.proofs.ListLemmas.{all_append, all_over_map, climbs_then, count-append, held_same, placed_map, same_map, some_map}
use Rattle.shard_core.proofs.PartLemmas.{shown_is}
use Rattle.shard_core.proofs.Standing.{Standing}

pub deleted_later : (first second : List Entry) (cell : Cell) → is_deleted_by second cell ≡ true → is_deleted_by (first ++ second) cell ≡ true
deleted_later [] second cell e = e
deleted_later (Write client points ∷ first) second cell e = deleted_later first second cell e
deleted_later (Delete client deletion ∷ first) second cell e = either (is_deleted deletion cell) (is_deleted_by (first ++ second) cell) (deleted_later first second cell e)
  where
    either : (a b : Bool) → b ≡ true → (a || b) ≡ true
    either true b e = refl
    either false b e = e

some_first : (floor number : ℕ) (first : List Entry) → number ≡ floor + length first → (first ≡ [] → ⊥) → suc floor ≤ number
some_first floor number [] e some = absurd (some refl)
some_first floor number (entry ∷ first) e some = omega arith

module _ (snapshot : Snapshot) (tombs : File → Option ℕ) (replaced : List ℕ) (core : Core) (inv : Standing core) (out : core.snapshot ≡ Some snapshot)
    (first second : List Entry) (is : SnapshotIs core.floor first second snapshot) where
  no_value : (snapshot : Snapshot) (cell : Cell) → IsCutBy (is_deleted_by second) (held snapshot.points) snapshot.now → value_at snapshot.points cell ≡ None → snapshot.now cell ≡ None
  no_value snapshot cell follows none =
      ⊎_elim (λ deleted. follows.hidden cell deleted) (λ kept. follows.kept cell kept ∙ none) (cases_Bool (is_deleted_by second cell))

  -- what is made shows what the snapshot did
  pub made_shows : (made : List File) → IsFileOf snapshot made → (cell : Cell) → overlay (map now_of made) cell ≡ snapshot.now cell
  made_shows made is_made cell =
      ⊎_elim (λ none. ap (λ (files : List File). overlay (map now_of files) cell) none.1
      ∙ sym (no_value snapshot cell is.follows (ap (λ (ps : Points). value_at ps cell) none.0)))
      (λ some. ap (λ (files : List File). overlay (map now_of files) cell) some.1.2) is_made

  pub made_follows : (made : List File) → IsFileOf snapshot made → AllByRecursion (FileIsCut second) made
  made_follows made is_made =
      ⊎_elim (λ none. subst (λ (files : List File). AllByRecursion (FileIsCut second) files) (sym none.1) tt)
      (λ some. subst (λ (files : List File). AllByRecursion (FileIsCut second) files) (sym some.1.2) (record { hidden = is.follows.hidden; kept = λ cell e. refl }, tt)) is_made

  pub made_climbs : (made : List File) → IsFileOf snapshot made → Climbs (suc core.floor) (map generation_of made) (suc snapshot.number)
  made_climbs made is_made =
      ⊎_elim (λ none. subst (λ (files : List File). Climbs (suc core.floor) (map generation_of files) (suc snapshot.number)) (sym none.1) (let e = is.counted in omega arith))
      (λ some. subst (λ (files : List File). Climbs (suc core.floor) (map generation_of files) (suc snapshot.number)) (sym some.1.2)
      (some_first core.floor snapshot.number first is.counted (λ nil. some.0 (no_values snapshot.points (λ cell. is.points cell ∙ ap (λ (es : List Entry). applied (effects es cell) None) nil))), le_refl (suc snapshot.number))) is_made

  module _ (made : List File) (is_made : IsFileOf snapshot made) (renames : Renames core (map (name_all tombs) core.files ++ made) replaced) where
    named_contents : (files : List File) → map now_of (map (name_all tombs) files) ≡ map now_of files
    named_contents files = same_map now_of (name_all tombs) (λ file. refl) files

    end_shows : ShowsHistory (without_snapshot snapshot made tombs replaced core)
    end_shows cell =
        let f : Option Value = overlay (map now_of core.files) cell in
        let c : Option Value = value_at core.cache cell in
        shown_is (map (name_all tombs) core.files ++ made) None core.cache cell
        ∙ ap (λ (o : Option Value). option_or c o)
        (ap (λ (ls : List Content). overlay ls cell) (map-append now_of (map (name_all tombs) core.files) made)
        ∙ overlay-append (map now_of (map (name_all tombs) core.files)) (map now_of made) cell
        ∙ ap₂ (λ (a b : Option Value). option_or a b) (made_shows made is_made cell) (ap (λ (ls : List Content). overlay ls cell) (named_contents core.files))
        ∙ ap (λ (s : Option Snapshot). option_or (overlay (snapshot_contents s) cell) f) (sym out))
        ∙ sym (shown_is core.files core.snapshot core.cache cell)
        ∙ inv.shows cell

    named_numbers : (merge : Merge) → source_numbers (name_merge tombs merge) ≡ source_numbers merge
    named_numbers merge = same_map file_number (name_all tombs) (λ file. refl) merge.sources

    merge_named : (merge : Merge) → MergeStands core.files merge → MergeStands (map (name_all tombs) core.files ++ made) (name_merge tombs merge)
    merge_named merge stands = record {
      before = map (name_all tombs) stands.before;
      behind = map (name_all tombs) stands.behind ++ made;
      placed = ap (λ (files : List File). map (name_all tombs) files ++ made) stands.placed
          ∙ ap (λ (files : List File). files ++ made) (placed_map (name_all tombs) stands.before merge.sources stands.behind)
          ∙ append_assoc (map (name_all tombs) stands.before) (map (name_all tombs) merge.sources ++ map (name_all tombs) stands.behind) made
          ∙ ap (λ (files : List File). map (name_all tombs) stands.before ++ files) (append_assoc (map (name_all tombs) merge.sources) (map (name_all tombs) stands.behind) made);
      some = some_map (name_all tombs) merge.sources stands.some;
      within = stands.within;
      shows = λ cell. stands.shows cell ∙ ap (λ (ls : List Content). overlay ls cell) (sym (named_contents merge.sources));
    }

    pub snapshot_ended : (settled : List Entry) → core.past ++ core.history ≡ settled ++ (first ++ second) → core.floor ≡ core.origin + length settled
        → ((cell : Cell) → value_at core.cache cell ≡ applied (effects second cell) None) → AllByRecursion (FileIsCut (first ++ second)) core.files
        → Standing (without_snapshot snapshot made tombs replaced core)
    snapshot_ended settled joined floor cache files = record {
      shows = end_shows;
      views = inv.views;
      merges = all_over_map (MergeStands core.files) (MergeStands (map (name_all tombs) core.files ++ made)) (name_merge tombs) merge_named core.merges inv.merges;
      apart = subst AreDisjoint (sym (same_map source_numbers (name_merge tombs) named_numbers core.merges)) inv.apart;
      parts = record {
        settled = settled ++ first;
        first = [];
        second = second;
        joined = joined ∙ sym (append_assoc settled first second);
        began = (let parts = inv.parts in parts.began);
        floor = (let e = is.counted in let l = length-append settled first in omega arith);
        cache = cache;
        snapshot = refl;
        files = all_append (FileIsCut second) (map (name_all tombs) core.files) made
            (all_over_map (FileIsCut (first ++ second)) (FileIsCut second) (name_all tombs)
            (λ file follows. record { hidden = λ cell e. follows.hidden cell (deleted_later first second cell e); kept = λ cell e. refl }) core.files files)
            (made_follows made is_made);
      };
      generations = subst (λ (ns : List ℕ). Climbs 0 ns (suc snapshot.number))
          (sym (map-append generation_of (map (name_all tombs) core.files) made ∙ ap (λ (ns : List ℕ). ns ++ map generation_of made) (same_map generation_of (name_all tombs) (λ file. refl) core.files)))
          (climbs_then 0 (map generation_of core.files) (suc core.floor) (map generation_of made) (suc snapshot.number) inv.generations (made_climbs made is_made));
      holds = λ n. inv.holds n ∙ ap (λ (h : ℕ). held_by_views n core.views + h) (sym (held_same n (name_merge tombs) named_numbers core.merges));
      present = λ n held.
          let was = inv.present n held in
          let numbers = ap (count n) (map-append file_number (map (name_all tombs) core.files) made ∙ ap (λ (ns : List ℕ). ns ++ map file_number made) (same_map file_number (name_all tombs) (λ file. refl) core.files)) in
          let a = count-append n (map file_number core.files) (map file_number made) in
          let b = count-append n replaced core.condemned in
          omega arith;
      once = λ n. let a = renames.unused n in let b = renames.moved n in let c = count-append n replaced core.condemned in omega arith;
      edit = tt;
      index = inv.index;
    }

pub end_snapshot_keeps : (old new : Core) → EndsSnapshot old new → Standing old → Standing new
end_snapshot_keeps old new ends inv =
    let parts = inv.parts in
    subst Standing (sym ends.same)
    (snapshot_ended ends.snapshot ends.tombs ends.replaced old inv ends.stands parts.first parts.second
    (subst (λ (s : Option Snapshot). IfSnapshotIs old.floor parts.first parts.second s) ends.stands parts.snapshot)
    ends.made ends.is_made ends.renames parts.settled parts.joined parts.floor parts.cache parts.files)
