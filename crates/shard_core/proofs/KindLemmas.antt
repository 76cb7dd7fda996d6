-- Live cells have one kind.
use Rattle.std.proofs.Common.{◌≡◌, ◌⊎◌, ⊎_elim, inl, inr, ℕ, suc, arith, append_assoc, Bool, true, false, cond, IsTrue, List, [], ◌∷◌, ◌++◌, map, ◌∙◌, ap, sym, refl, subst, Option, Some, None}
use Rattle.std.specs.Prelude.{Contains, option_map}
use Rattle.std.specs.Option.{option_or}
use Rattle.std.specs.List.{AllByRecursion}
use Rattle.std.proofs.lemmas.List.{map-append}
use Rattle.tsdb_types.specs.declared.point.Cell.{Cell}
use Rattle.tsdb_types.specs.declared.point.Point.{Point}
use Rattle.tsdb_types.specs.declared.value.Value.{Value}
use Rattle.tsdb_types.specs.Values.{kind_of}
use Rattle.point_model.specs.declared.deletion.Deletion.{Deletion}
use Rattle.point_model.specs.declared.entry.Entry.{Entry}
use Rattle.point_model.specs.Deletions.{is_deleted, without}
use Rattle.point_model.specs.Histories.{with_points}
use Rattle.point_model.specs.Measurements.{is_same_field}
use Rattle.point_model.specs.Points.{Points, is_same_cell, no_points, value_at}
use Rattle.point_model.proofs.EffectLemmas.{IsSet, value_after_write, value_without, written_sets}
use Rattle.point_model.proofs.FieldLemmas.{same_field, same_field-sym}
use Rattle.point_model.specs.Contents.{Content, overlay}
use Rattle.point_model.specs.Effects.{Effect, applied, is_deleted_by, written}
use Rattle.shard_core.specs.Contents.{held}
use Rattle.shard_core.specs.DiskEvents.{RecordsFiles, name_some}
use Rattle.shard_core.specs.EntryEvents.{Deletes, Writes, cut_file, cut_snapshot}
use Rattle.shard_core.specs.Invariant.{MergeStands}
use Rattle.shard_core.specs.Kinds.{HasLive, KindsAgree, OneKind}
use Rattle.shard_core.specs.MergeEvents.{EndsMerge, IsFileOfMerge, file_of_merge}
use Rattle.shard_core.specs.Parts.{FileIsCut}
use Rattle.shard_core.specs.SnapshotEvents.{BeginsSnapshot, EndsSnapshot, IsFileOf, snapshot_file, name_all}
use Rattle.shard_core.specs.Files.{now_of, on_disk}
use Rattle.shard_core.specs.Shown.{contents_in, contents_of, snapshot_contents}
use Rattle.shard_core.specs.State.{Core, File, Merge, Snapshot, points_now}
use Rattle.shard_core.specs.Taken.{AcceptsFields}
use Rattle.shard_core.proofs.EntryLaws.{cell_same}
use Rattle.shard_core.proofs.ListLemmas.{all_left, all_right, placed_map}
use Rattle.shard_core.proofs.Standing.{Standing}

-- each live cell of the first is one of the second
abbrev pub Within : List Content → List Content → Type 0
Within contents others = (cell : Cell) (value : Value) → HasLive contents cell value → HasLive others cell value

pub one_kind : (contents others : List Content) → Within contents others → OneKind others → OneKind contents
one_kind contents others within one a b v w first second same = one a b v w (within a v first) (within b w second) same

pub live_left : (contents others : List Content) → Within contents (contents ++ others)
live_left [] others cell value has = absurd has
live_left (content ∷ contents) others cell value (inl is) = inl is
live_left (content ∷ contents) others cell value (inr has) = inr (live_left contents others cell value has)

pub live_right : (contents others : List Content) → Within others (contents ++ others)
live_right [] others cell value has = has
live_right (content ∷ contents) others cell value has = inr (live_right contents others cell value has)

pub live_either : (contents others : List Content) (cell : Cell) (value : Value) → HasLive (contents ++ others) cell value → HasLive contents cell value ⊎ HasLive others cell value
live_either [] others cell value has = inr has
live_either (content ∷ contents) others cell value (inl is) = inl (inl is)
live_either (content ∷ contents) others cell value (inr has) = ⊎_elim (λ first. inl (inr first)) (λ second. inr second) (live_either contents others cell value has)

-- parts of lists within parts of others
pub within_both : (a b c d : List Content) → Within a c → Within b d → Within (a ++ b) (c ++ d)
within_both a b c d first second cell value has =
    ⊎_elim (λ l. live_left c d cell value (first cell value l)) (λ r. live_right c d cell value (second cell value r)) (live_either a b cell value has)

pub within_itself : (a : List Content) → Within a a
within_itself a cell value has = has

-- what shows is live
pub overlay_live : (contents : List Content) (cell : Cell) (value : Value) → overlay contents cell ≡ Some value → HasLive contents cell value
overlay_live [] cell value e = absurd (cc)
overlay_live (content ∷ contents) cell value e = by (overlay contents cell) (overlay_live contents cell value) refl e
  where
    by : (o : Option Value) → (overlay contents cell ≡ Some value → HasLive contents cell value) → overlay contents cell ≡ o → option_or o (content cell) ≡ Some value → (content cell ≡ Some value) ⊎ HasLive contents cell value
    by (Some x) rest is e = inr (rest (is ∙ e))
    by None rest is e = inl e

-- where a cell is live in some content, something shows there
pub live_shows : (contents : List Content) (cell : Cell) (value : Value) → HasLive contents cell value → (shown : Value) × (overlay contents cell ≡ Some shown)
live_shows [] cell value has = absurd has
live_shows (content ∷ contents) cell value (inl is) = by (overlay contents cell) refl
  where
    by : (o : Option Value) → overlay contents cell ≡ o → (shown : Value) × (option_or (overlay contents cell) (content cell) ≡ Some shown)
    by (Some x) e = (x, ap (λ (p : Option Value). option_or p (content cell)) e)
    by None e = (value, ap (λ (p : Option Value). option_or p (content cell)) e ∙ is)
live_shows (content ∷ contents) cell value (inr has) =
    let rest = live_shows contents cell value has in
    (rest.0, ap (λ (p : Option Value). option_or p (content cell)) rest.1)

cut_some : (b : Bool) (o : Option Value) (value : Value) → cond b None o ≡ Some value → o ≡ Some value
cut_some true o value e = absurd (cc)
cut_some false o value e = e

within_cut : (deletion : Deletion) (files : List File) → Within (map now_of (map (cut_file deletion) files)) (map now_of files)
within_cut deletion [] cell value has = absurd has
within_cut deletion (file ∷ files) cell value (inl is) = inl (cut_some (is_deleted deletion cell) (file.now cell) value (is))
within_cut deletion (file ∷ files) cell value (inr has) = inr (within_cut deletion files cell value has)

within_cut_snapshot : (deletion : Deletion) (snapshot : Option Snapshot) → Within (snapshot_contents (option_map (cut_snapshot deletion) snapshot)) (snapshot_contents snapshot)
within_cut_snapshot deletion None cell value has = absurd has
within_cut_snapshot deletion (Some snapshot) cell value (inl is) = inl (cut_some (is_deleted deletion cell) (snapshot.now cell) value (is))
within_cut_snapshot deletion (Some snapshot) cell value (inr has) = absurd has

pub disk_cut : (deletion : Deletion) (files : List File) → map on_disk (map (cut_file deletion) files) ≡ map on_disk files
disk_cut deletion [] = refl
disk_cut deletion (file ∷ files) = ap (λ (ls : List Content). on_disk file ∷ ls) (disk_cut deletion files)

pub delete_kinds : (old new : Core) → Deletes old new → Standing old → KindsAgree old → KindsAgree new
delete_kinds old new deletes inv kinds =
    let deletion = deletes.deletion in
    subst KindsAgree (sym deletes.same)
    record {
      now = one_kind (contents_in (map (cut_file deletion) old.files) (option_map (cut_snapshot deletion) old.snapshot) (without old.cache deletion)) (contents_of old)
          (within_both (map now_of (map (cut_file deletion) old.files)) (snapshot_contents (option_map (cut_snapshot deletion) old.snapshot) ++ held (without old.cache deletion) ∷ [])
          (map now_of old.files) (snapshot_contents old.snapshot ++ held old.cache ∷ []) (within_cut deletion old.files)
          (within_both (snapshot_contents (option_map (cut_snapshot deletion) old.snapshot)) (held (without old.cache deletion) ∷ []) (snapshot_contents old.snapshot) (held old.cache ∷ [])
          (within_cut_snapshot deletion old.snapshot)
          (λ cell value has. ⊎_elim (λ is. inl (cut_some (is_deleted deletion cell) (value_at old.cache cell) value (sym (value_without old.cache deletion cell) ∙ is))) (λ none. absurd none) has)))
          kinds.now;
      disk = subst OneKind (sym (disk_cut deletion old.files)) kinds.disk;
    }

pub snapshot_kinds : (old new : Core) → BeginsSnapshot old new → Standing old → KindsAgree old → KindsAgree new
snapshot_kinds old new begins inv kinds =
    ⊎_elim
    (λ first. subst KindsAgree (sym first.1)
    record {
      now = one_kind (map now_of old.files ++ (held old.cache ∷ held no_points ∷ [])) (contents_of old)
          (within_both (map now_of old.files) (held old.cache ∷ held no_points ∷ []) (map now_of old.files) (snapshot_contents old.snapshot ++ held old.cache ∷ []) (within_itself (map now_of old.files))
          (λ cell value has. live_right (snapshot_contents old.snapshot) (held old.cache ∷ []) cell value (⊎_elim (λ is. inl is) (λ rest. absurd (⊎_elim (λ is. none_some value is) (λ none. none) rest)) has)))
          kinds.now;
      disk = kinds.disk;
    })
    (λ again. subst KindsAgree (sym again.3)
    record {
      now = subst (λ (s : Option Snapshot). OneKind (map now_of old.files ++ (snapshot_contents s ++ held old.cache ∷ []))) again.1 kinds.now;
      disk = kinds.disk;
    })
    begins
  where
    none_some : (value : Value) → None ≡ Some value → ⊥
    none_some value e = cc

-- the files' contents, with names on the disk or without
contents_all : (tombs : File → Option ℕ) (files : List File) → map now_of (map (name_all tombs) files) ≡ map now_of files
contents_all tombs [] = refl
contents_all tombs (file ∷ files) = ap (λ (ls : List Content). file.now ∷ ls) (contents_all tombs files)

pub disk_all : (tombs : File → Option ℕ) (files : List File) → map on_disk (map (name_all tombs) files) ≡ map now_of files
disk_all tombs [] = refl
disk_all tombs (file ∷ files) = ap (λ (ls : List Content). file.now ∷ ls) (disk_all tombs files)

pub made_within : (snapshot : Snapshot) (made : List File) → IsFileOf snapshot made → (read : File → Content) → ((number : ℕ) (tomb : Option ℕ) → read (snapshot_file snapshot number tomb) ≡ snapshot.now)
    → Within (map read made) (snapshot.now ∷ [])
made_within snapshot made is_made read reads =
    ⊎_elim (λ none. subst (λ (files : List File). Within (map read files) (snapshot.now ∷ [])) (sym none.1) (λ cell value has. absurd has))
    (λ some. subst (λ (files : List File). Within (map read files) (snapshot.now ∷ [])) (sym some.1.2)
    (subst (λ (l : Content). Within (l ∷ []) (snapshot.now ∷ [])) (sym (reads some.1.0 some.1.1)) (within_itself (snapshot.now ∷ [])))) is_made

pub end_snapshot_kinds : (old new : Core) → EndsSnapshot old new → Standing old → KindsAgree old → KindsAgree new
end_snapshot_kinds old new ends inv kinds =
    let files = map (name_all ends.tombs) old.files in
    let before = subst (λ (s : Option Snapshot). OneKind (map now_of old.files ++ (snapshot_contents s ++ held old.cache ∷ []))) ends.stands kinds.now in
    let content = ends.snapshot.now in
    subst KindsAgree (sym ends.same)
    record {
      now = one_kind (map now_of (files ++ ends.made) ++ (held old.cache ∷ [])) (map now_of old.files ++ (content ∷ held old.cache ∷ []))
          (subst (λ (ls : List Content). Within (ls ++ (held old.cache ∷ [])) (map now_of old.files ++ (content ∷ held old.cache ∷ [])))
          (sym (map-append now_of files ends.made ∙ ap (λ (ls : List Content). ls ++ map now_of ends.made) (contents_all ends.tombs old.files)))
          (λ cell value has. ⊎_elim
          (λ either. ⊎_elim (λ l. live_left (map now_of old.files) (content ∷ held old.cache ∷ []) cell value l)
          (λ m. live_right (map now_of old.files) (content ∷ held old.cache ∷ []) cell value
          (live_left (content ∷ []) (held old.cache ∷ []) cell value (made_within ends.snapshot ends.made ends.is_made now_of (λ number tomb. refl) cell value m)))
          (live_either (map now_of old.files) (map now_of ends.made) cell value either))
          (λ c. live_right (map now_of old.files) (content ∷ held old.cache ∷ []) cell value (inr c))
          (live_either (map now_of old.files ++ map now_of ends.made) (held old.cache ∷ []) cell value has)))
          before;
      disk = one_kind (map on_disk (files ++ ends.made)) (map now_of old.files ++ (content ∷ held old.cache ∷ []))
          (subst (λ (ls : List Content). Within ls (map now_of old.files ++ (content ∷ held old.cache ∷ [])))
          (sym (map-append on_disk files ends.made ∙ ap (λ (ls : List Content). ls ++ map on_disk ends.made) (disk_all ends.tombs old.files)))
          (within_both (map now_of old.files) (map on_disk ends.made) (map now_of old.files) (content ∷ held old.cache ∷ []) (within_itself (map now_of old.files))
          (λ cell value m. live_left (content ∷ []) (held old.cache ∷ []) cell value (made_within ends.snapshot ends.made ends.is_made on_disk (λ number tomb. refl) cell value m))))
          before;
    }

-- what is live now is live on the disk
live_on_disk : (deleted : Bool) (now disk : Option Value) (value : Value) → (deleted ≡ true → now ≡ None) → (deleted ≡ false → now ≡ disk) → now ≡ Some value → disk ≡ Some value
live_on_disk true now disk value hidden kept e = absurd (let f = hidden refl in let g = sym f ∙ e in cc)
live_on_disk false now disk value hidden kept e = sym (kept refl) ∙ e

pub within_disk : (entries : List Entry) (files : List File) → AllByRecursion (FileIsCut entries) files → Within (map now_of files) (map on_disk files)
within_disk entries [] follow cell value has = absurd has
within_disk entries (file ∷ files) follow cell value (inl is) =
    let own = follow.0 in
    inl (live_on_disk (is_deleted_by entries cell) (file.now cell) (file.stored.content cell) value (own.hidden cell) (own.kept cell) is)
within_disk entries (file ∷ files) follow cell value (inr has) = inr (within_disk entries files follow.1 cell value has)

made_of_merge : (merge : Merge) (made : List File) → IsFileOfMerge merge made → (read : File → Content) → ((number : ℕ) (tomb : Option ℕ) → read (file_of_merge merge number tomb) ≡ merge.now)
    → Within (map read made) (merge.now ∷ [])
made_of_merge merge made is_made read reads =
    ⊎_elim (λ none. subst (λ (files : List File). Within (map read files) (merge.now ∷ [])) (sym none.1) (λ cell value has. absurd has))
    (λ some. subst (λ (files : List File). Within (map read files) (merge.now ∷ [])) (sym some.1.2)
    (subst (λ (l : Content). Within (l ∷ []) (merge.now ∷ [])) (sym (reads some.1.0 some.1.1)) (within_itself (merge.now ∷ [])))) is_made

-- an output's live cells are the sources'
output_within : (files : List File) (merge : Merge) → MergeStands files merge → Within (merge.now ∷ []) (map now_of merge.sources)
output_within files merge stands cell value has = ⊎_elim (λ is. overlay_live (map now_of merge.sources) cell value (sym (stands.shows cell) ∙ is)) (λ none. absurd none) has

-- files among others give place to files that have no other live cells
pub replaced_within : (read : File → Content) (before made group behind : List File) → Within (map read made) (map read group) → Within (map read (before ++ (made ++ behind))) (map read (before ++ (group ++ behind)))
replaced_within read before made group behind within =
    subst (λ (ls : List Content). Within ls (map read (before ++ (group ++ behind)))) (sym (placed_map read before made behind))
    (subst (λ (ls : List Content). Within (map read before ++ (map read made ++ map read behind)) ls) (sym (placed_map read before group behind))
    (within_both (map read before) (map read made ++ map read behind) (map read before) (map read group ++ map read behind) (within_itself (map read before))
    (within_both (map read made) (map read behind) (map read group) (map read behind) within (within_itself (map read behind)))))

pub merge_disk_within : (old : Core) (new : Core) (ends : EndsMerge old new) → Standing old → Within (map on_disk (ends.before ++ (ends.made ++ ends.behind))) (map on_disk (ends.before ++ (ends.merge.sources ++ ends.behind)))
merge_disk_within old new ends inv =
    let merge = ends.merge in
    let all = subst (λ (merges : List Merge). AllByRecursion (MergeStands old.files) merges) ends.listed inv.merges in
    let own : MergeStands old.files merge = (let right = all_right (MergeStands old.files) ends.earlier (merge ∷ ends.others) all in right.0) in
    let parts = inv.parts in
    let entries = parts.first ++ parts.second in
    let follow = subst (λ (files : List File). AllByRecursion (FileIsCut entries) files) ends.placed parts.files in
    let follow_sources = all_left (FileIsCut entries) merge.sources ends.behind (all_right (FileIsCut entries) ends.before (merge.sources ++ ends.behind) follow) in
    replaced_within on_disk ends.before ends.made merge.sources ends.behind
    (λ cell value has. within_disk entries merge.sources follow_sources cell value
    (output_within old.files merge own cell value (made_of_merge merge ends.made ends.is_made on_disk (λ number tomb. refl) cell value has)))

pub end_merge_kinds : (old new : Core) → EndsMerge old new → Standing old → KindsAgree old → KindsAgree new
end_merge_kinds old new ends inv kinds =
    let merge = ends.merge in
    let all = subst (λ (merges : List Merge). AllByRecursion (MergeStands old.files) merges) ends.listed inv.merges in
    let own : MergeStands old.files merge = (let right = all_right (MergeStands old.files) ends.earlier (merge ∷ ends.others) all in right.0) in
    let after_files = ends.before ++ (ends.made ++ ends.behind) in
    subst KindsAgree (sym ends.same)
    record {
      now = one_kind (contents_in after_files old.snapshot old.cache) (contents_in (ends.before ++ (merge.sources ++ ends.behind)) old.snapshot old.cache)
          (within_both (map now_of after_files) (snapshot_contents old.snapshot ++ held old.cache ∷ []) (map now_of (ends.before ++ (merge.sources ++ ends.behind))) (snapshot_contents old.snapshot ++ held old.cache ∷ [])
          (replaced_within now_of ends.before ends.made merge.sources ends.behind
          (λ cell value has. output_within old.files merge own cell value (made_of_merge merge ends.made ends.is_made now_of (λ number tomb. refl) cell value has)))
          (within_itself (snapshot_contents old.snapshot ++ held old.cache ∷ [])))
          (subst (λ (files : List File). OneKind (contents_in files old.snapshot old.cache)) ends.placed kinds.now);
      disk = one_kind (map on_disk after_files) (map on_disk (ends.before ++ (merge.sources ++ ends.behind)))
          (merge_disk_within old new ends inv)
          (subst (λ (files : List File). OneKind (map on_disk files)) ends.placed kinds.disk);
    }

-- files of which some have all their tombstones on the disk
pub within_named : (chosen : File → Bool) (tombs : File → Option ℕ) (entries : List Entry) (files : List File) → AllByRecursion (FileIsCut entries) files → Within (map on_disk (map (name_some chosen tombs) files)) (map on_disk files)
within_named chosen tombs entries [] follow cell value has = absurd has
within_named chosen tombs entries (file ∷ files) follow cell value (inr has) = inr (within_named chosen tombs entries files follow.1 cell value has)
within_named chosen tombs entries (file ∷ files) follow cell value (inl is) = inl (by (chosen file) is)
  where
    by : (b : Bool) → on_disk (cond b (name_all tombs file) file) cell ≡ Some value → on_disk file cell ≡ Some value
    by true is = let own = follow.0 in live_on_disk (is_deleted_by entries cell) (file.now cell) (file.stored.content cell) value (own.hidden cell) (own.kept cell) is
    by false is = is

within_now : (chosen : File → Bool) (tombs : File → Option ℕ) (files : List File) → Within (map now_of (map (name_some chosen tombs) files)) (map now_of files)
within_now chosen tombs [] cell value has = absurd has
within_now chosen tombs (file ∷ files) cell value (inr has) = inr (within_now chosen tombs files cell value has)
within_now chosen tombs (file ∷ files) cell value (inl is) = inl (by (chosen file) is)
  where
    by : (b : Bool) → now_of (cond b (name_all tombs file) file) cell ≡ Some value → file.now cell ≡ Some value
    by true is = is
    by false is = is

pub record_kinds : (old new : Core) → RecordsFiles old new → Standing old → KindsAgree old → KindsAgree new
record_kinds old new records inv kinds =
    let files = map (name_some records.chosen records.tombs) old.files in
    let parts = inv.parts in
    subst KindsAgree (sym records.same)
    record {
      now = one_kind (contents_in files old.snapshot old.cache) (contents_of old)
          (within_both (map now_of files) (snapshot_contents old.snapshot ++ held old.cache ∷ []) (map now_of old.files) (snapshot_contents old.snapshot ++ held old.cache ∷ [])
          (within_now records.chosen records.tombs old.files) (within_itself (snapshot_contents old.snapshot ++ held old.cache ∷ []))) kinds.now;
      disk = one_kind (map on_disk files) (map on_disk old.files) (within_named records.chosen records.tombs (parts.first ++ parts.second) old.files parts.files) kinds.disk;
    }

-- a later point of a longer batch
pub contains_later : (first point : Point) (points : List Point) → Contains points point → Contains (first ∷ points) point
contains_later first point points has = (suc has.0, (let e = has.1 in omega arith), has.2)

-- A live cell after a write was live before, or is one of the batch.
pub record IsWritten (points : List Point) (cell : Cell) (value : Value) : Type 0 where
  pub point : Point
  pub among : Contains points point
  pub at : point.cell ≡ cell
  pub has : point.value ≡ value

pub written_from : (points : List Point) (cell : Cell) (value : Value) → written points cell ≡ Some (Some value) → IsWritten points cell value
written_from [] cell value e = absurd (cc)
written_from (point ∷ points) cell value e = by (written points cell) (is_same_cell point.cell cell) (written_from points cell value) refl refl e
  where
    by : (o : Effect) (b : Bool) → (written points cell ≡ Some (Some value) → IsWritten points cell value) → written points cell ≡ o → is_same_cell point.cell cell ≡ b
        → option_or o (cond b (Some (Some point.value)) None) ≡ Some (Some value) → IsWritten (point ∷ points) cell value
    by (Some x) b rest is same e = let own = rest (is ∙ e) in record { point = own.point; among = contains_later point own.point points own.among; at = own.at; has = own.has }
    by None true rest is same e = record { point = point; among = (0, omega arith, refl); at = cell_same point.cell cell same; has = cc }
    by None false rest is same e = absurd (cc)

set_or_was : (e : Effect) (was : Option Value) (value : Value) → IsSet e → applied e was ≡ Some value → (was ≡ Some value) ⊎ (e ≡ Some (Some value))
set_or_was None was value s is = inl is
set_or_was (Some None) was value s is = absurd s
set_or_was (Some (Some v)) was value s is = inr (ap (λ (o : Option Value). Some o) is)

written_or_old : (contents : List Content) (cache : Points) (points : List Point) (cell : Cell) (value : Value) → HasLive (contents ++ held (with_points cache points) ∷ []) cell value
    → HasLive (contents ++ held cache ∷ []) cell value ⊎ IsWritten points cell value
written_or_old contents cache points cell value has =
    ⊎_elim (λ f. inl (live_left contents (held cache ∷ []) cell value f))
    (λ c. ⊎_elim (λ is. ⊎_elim (λ was. inl (live_right contents (held cache ∷ []) cell value (inl was))) (λ new. inr (written_from points cell value new))
    (set_or_was (written points cell) (value_at cache cell) value (written_sets points cell) (sym (value_after_write cache points cell) ∙ is)))
    (λ none. absurd none) c)
    (live_either contents (held (with_points cache points) ∷ []) cell value has)

-- contents with the same cells accept the same
pub shown_accepts : (first second : Content) (points : List Point) → ((cell : Cell) → first cell ≡ second cell) → AcceptsFields second points → AcceptsFields first points
shown_accepts first second points same accepts = record {
  accepted = λ cell value e. accepts.accepted cell value (sym (same cell) ∙ e);
  one_kind = accepts.one_kind;
}

-- a live cell and a point of the batch: what shows at the cell has its kind, and is accepted
meets : (contents : List Content) (points : List Point) → AcceptsFields (overlay contents) points → OneKind contents → (a b : Cell) (v w : Value) → HasLive contents a v → IsWritten points b w → IsTrue (is_same_field a b)
    → kind_of v ≡ kind_of w
meets contents points accepts kinds a b v w has new same =
    let shown = live_shows contents a v has in
    kinds a a v shown.0 has (overlay_live contents a shown.0 shown.1) (same_field a a refl refl)
    ∙ accepts.accepted a shown.0 shown.1 new.point new.among (subst (λ (c : Cell). IsTrue (is_same_field a c)) (sym new.at) same)
    ∙ ap kind_of new.has

pub both : (points : List Point) → ((a b : Point) → Contains points a → Contains points b → IsTrue (is_same_field a.cell b.cell) → kind_of a.value ≡ kind_of b.value)
    → (a b : Cell) (v w : Value) → IsWritten points a v → IsWritten points b w → IsTrue (is_same_field a b) → kind_of v ≡ kind_of w
both points one a b v w first second same =
    sym (ap kind_of first.has)
    ∙ one first.point second.point first.among second.among
    (subst (λ (c : Cell). IsTrue (is_same_field c second.point.cell)) (sym first.at) (subst (λ (c : Cell). IsTrue (is_same_field a c)) (sym second.at) same))
    ∙ ap kind_of second.has

-- a write leaves one kind where the contents accept it
pub write_one : (contents : List Content) (cache : Points) (points : List Point) → AcceptsFields (overlay (contents ++ held cache ∷ [])) points → OneKind (contents ++ held cache ∷ [])
    → OneKind (contents ++ held (with_points cache points) ∷ [])
write_one contents cache points accepts kinds a b v w first second same =
    let all = contents ++ held cache ∷ [] in
    ⊎_elim
    (λ old_a. ⊎_elim (λ old_b. kinds a b v w old_a old_b same) (λ new_b. meets all points accepts kinds a b v w old_a new_b same) (written_or_old contents cache points b w second))
    (λ new_a. ⊎_elim (λ old_b. sym (meets all points accepts kinds b a w v old_b new_a (same_field-sym a b same))) (λ new_b. both points accepts.one_kind a b v w new_a new_b same) (written_or_old contents cache points b w second))
    (written_or_old contents cache points a v first)

pub write_kinds : (old new : Core) → (writes : Writes old new) → AcceptsFields (held (points_now old)) writes.points → Standing old → KindsAgree old → KindsAgree new
write_kinds old new writes accepts inv kinds =
    let contents = map now_of old.files ++ snapshot_contents old.snapshot in
    let first = sym (append_assoc (map now_of old.files) (snapshot_contents old.snapshot) (held old.cache ∷ [])) in
    let second = append_assoc (map now_of old.files) (snapshot_contents old.snapshot) (held (with_points old.cache writes.points) ∷ []) in
    subst KindsAgree (sym writes.same)
    record {
      now = subst OneKind second
          (write_one contents old.cache writes.points
          (subst (λ (cs : List Content). AcceptsFields (overlay cs) writes.points) first (shown_accepts (overlay (contents_of old)) (held (points_now old)) writes.points inv.shows accepts))
          (subst OneKind first kinds.now));
      disk = kinds.disk;
    }
