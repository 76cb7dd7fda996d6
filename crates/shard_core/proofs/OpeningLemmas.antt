-- What opening makes of kinds and entries.
use Rattle.std.proofs.Common.{◌≡◌, ⊎_elim, inl, inr, ℕ, ◌-◌, arith, Bool, true, false, cond, ◌||◌, List, [], ◌∷◌, ◌++◌, map, ◌∙◌, ap, ap₂, sym, refl, subst, Option, Some, None, append-nil, drop_at}
use Rattle.std.specs.Option.{option_or}
use Rattle.tsdb_types.specs.declared.point.Cell.{Cell}
use Rattle.tsdb_types.specs.declared.point.Point.{Point}
use Rattle.tsdb_types.specs.declared.value.Value.{Value}
use Rattle.point_model.specs.declared.deletion.Deletion.{Deletion}
use Rattle.point_model.specs.declared.entry.Entry.{Entry}
use Rattle.point_model.specs.declared.entry.Entry.TheVariants.{Write, Delete}
use Rattle.point_model.specs.Deletions.{is_deleted, without}
use Rattle.point_model.specs.Histories.{State, after, with_points}
use Rattle.point_model.specs.Points.{Points, no_points, value_at}
use Rattle.point_model.proofs.EffectLemmas.{deleted_value, overlay-append, overlay_spared, set_shows, spared_or, value_after_write, value_without, written_sets}
use Rattle.point_model.specs.Contents.{Content, acted, overlay, spared}
use Rattle.point_model.specs.Effects.{applied, effects, is_deleted_by, written}
use Rattle.shard_core.specs.Contents.{held, left}
use Rattle.shard_core.specs.Crashes.{Images, MayLeave, OpensDirectory, opened_file}
use Rattle.shard_core.specs.EntryEvents.{image_with}
use Rattle.shard_core.specs.Images.{ImageStands}
use Rattle.shard_core.specs.Kinds.{HasLive, KindsAgree, OneKind}
use Rattle.shard_core.specs.Files.{content_in, now_of, on_disk}
use Rattle.shard_core.specs.State.{Core, Image, StoredFile}
use Rattle.shard_core.specs.Taken.{Admits, AdmitsAll, DoubtsTaken, EntriesTaken, IsReadableImage}
use Rattle.shard_core.proofs.ImageLemmas.{each_stands}
use Rattle.shard_core.proofs.KindLemmas.{Within, live_either, one_kind, within_both, within_itself, write_one}
use Rattle.shard_core.proofs.ListLemmas.{map_of_map}
use Rattle.shard_core.proofs.SoundLemmas.{image_sound, same_below, takes_below, takes_entry_below, takes_more}
use Rattle.shard_core.proofs.Standing.{Standing}

-- contents under a log's deletions, one after the other
cut_by : List Entry → List Content → List Content
cut_by [] contents = contents
cut_by (Write client points ∷ entries) contents = cut_by entries contents
cut_by (Delete client deletion ∷ entries) contents = cut_by entries (map (spared deletion) contents)

cut_some : (b : Bool) (o : Option Value) (value : Value) → cond b None o ≡ Some value → o ≡ Some value
cut_some true o value e = absurd (cc)
cut_some false o value e = e

within_cut : (deletion : Deletion) (contents : List Content) → Within (map (spared deletion) contents) contents
within_cut deletion [] cell value has = absurd has
within_cut deletion (content ∷ contents) cell value (inl is) = inl (cut_some (is_deleted deletion cell) (content cell) value is)
within_cut deletion (content ∷ contents) cell value (inr has) = inr (within_cut deletion contents cell value has)

last_shows : (contents : List Content) (cache : Points) (cell : Cell) → overlay (contents ++ held cache ∷ []) cell ≡ option_or (value_at cache cell) (overlay contents cell)
last_shows contents cache cell = overlay-append contents (held cache ∷ []) cell

write_acted : (contents : List Content) (cache : Points) (client : ℕ) (points : List Point) (cell : Cell)
    → overlay (contents ++ held (with_points cache points) ∷ []) cell ≡ acted (Write client points) (overlay (contents ++ held cache ∷ [])) cell
write_acted contents cache client points cell =
    last_shows contents (with_points cache points) cell
    ∙ ap (λ (o : Option Value). option_or o (overlay contents cell)) (value_after_write cache points cell)
    ∙ set_shows (written points cell) (written_sets points cell) (value_at cache cell) (overlay contents cell)
    ∙ ap (λ (o : Option Value). applied (written points cell) o) (sym (last_shows contents cache cell))

delete_acted : (contents : List Content) (cache : Points) (client : ℕ) (deletion : Deletion) (cell : Cell)
    → overlay (map (spared deletion) contents ++ held (without cache deletion) ∷ []) cell ≡ acted (Delete client deletion) (overlay (contents ++ held cache ∷ [])) cell
delete_acted contents cache client deletion cell =
    last_shows (map (spared deletion) contents) (without cache deletion) cell
    ∙ ap₂ (λ (a b : Option Value). option_or a b) (value_without cache deletion cell) (overlay_spared deletion contents cell)
    ∙ spared_or (is_deleted deletion cell) (value_at cache cell) (overlay contents cell)
    ∙ ap (λ (o : Option Value). cond (is_deleted deletion cell) None o) (sym (last_shows contents cache cell))
    ∙ deleted_value (is_deleted deletion cell) (overlay (contents ++ held cache ∷ []) cell)

-- entries that are taken leave one kind
entries_one : (entries : List Entry) (contents : List Content) (cache : Points) → AdmitsAll (overlay (contents ++ held cache ∷ [])) entries → OneKind (contents ++ held cache ∷ [])
    → OneKind (cut_by entries contents ++ held (after cache entries) ∷ [])
unfolding cut_by
entries_one [] contents cache takes kinds = kinds
entries_one (Write client points ∷ entries) contents cache takes kinds =
    entries_one entries contents (with_points cache points)
    (takes_below (overlay (contents ++ held (with_points cache points) ∷ [])) (acted (Write client points) (overlay (contents ++ held cache ∷ []))) entries
    (same_below (overlay (contents ++ held (with_points cache points) ∷ [])) (acted (Write client points) (overlay (contents ++ held cache ∷ []))) (write_acted contents cache client points)) takes.1)
    (write_one contents cache points takes.0 kinds)
entries_one (Delete client deletion ∷ entries) contents cache takes kinds =
    let less = map (spared deletion) contents ++ held (without cache deletion) ∷ [] in
    entries_one entries (map (spared deletion) contents) (without cache deletion)
    (takes_below (overlay less) (acted (Delete client deletion) (overlay (contents ++ held cache ∷ []))) entries
    (same_below (overlay less) (acted (Delete client deletion) (overlay (contents ++ held cache ∷ []))) (delete_acted contents cache client deletion)) takes.1)
    (one_kind less (contents ++ held cache ∷ [])
    (within_both (map (spared deletion) contents) (held (without cache deletion) ∷ []) contents (held cache ∷ []) (within_cut deletion contents)
    (λ cell value has. ⊎_elim (λ is. inl (cut_some (is_deleted deletion cell) (value_at cache cell) value (sym (value_without cache deletion cell) ∙ is))) (λ none. absurd none) has))
    kinds)

-- what is live in contents and isn't deleted is live under the deletions
kept_live : (deletion : Deletion) (contents : List Content) (cell : Cell) (value : Value) → is_deleted deletion cell ≡ false → HasLive contents cell value → HasLive (map (spared deletion) contents) cell value
kept_live deletion [] cell value kept has = absurd has
kept_live deletion (content ∷ contents) cell value kept (inl is) = inl (ap (λ (b : Bool). cond b None (content cell)) kept ∙ is)
kept_live deletion (content ∷ contents) cell value kept (inr has) = inr (kept_live deletion contents cell value kept has)

left_false : (a b : Bool) → (a || b) ≡ false → a ≡ false
left_false true b e = e
left_false false b e = refl

right_false : (a b : Bool) → (a || b) ≡ false → b ≡ false
right_false true b e = absurd (cc)
right_false false b e = e

all_kept : (entries : List Entry) (contents : List Content) (cell : Cell) (value : Value) → is_deleted_by entries cell ≡ false → HasLive contents cell value → HasLive (cut_by entries contents) cell value
unfolding cut_by
all_kept [] contents cell value kept has = has
all_kept (Write client points ∷ entries) contents cell value kept has = all_kept entries contents cell value kept has
all_kept (Delete client deletion ∷ entries) contents cell value kept has =
    all_kept entries (map (spared deletion) contents) cell value (right_false (is_deleted deletion cell) (is_deleted_by entries cell) kept)
    (kept_live deletion contents cell value (left_false (is_deleted deletion cell) (is_deleted_by entries cell) kept) has)

-- an opened file's live cell is live on the disk, and no deletion of the log takes it away
opened_live : (deleted : Bool) (o : Option Value) (value : Value) → cond deleted None o ≡ Some value → (o ≡ Some value) × (deleted ≡ false)
opened_live true o value e = absurd (cc)
opened_live false o value e = (e, refl)

opened_has : (entries : List Entry) (files : List StoredFile) (cell : Cell) (value : Value) → HasLive (map now_of (map (opened_file entries) files)) cell value → HasLive (map content_in files) cell value × (is_deleted_by entries cell ≡ false)
opened_has entries [] cell value has = absurd has
opened_has entries (file ∷ files) cell value (inl is) =
    let e = opened_live (is_deleted_by entries cell) (file.content cell) value is in (inl e.0, e.1)
opened_has entries (file ∷ files) cell value (inr has) = let rest = opened_has entries files cell value has in (inr rest.0, rest.1)

pub opened_kinds : (image : Image) (core : Core) → IsReadableImage image → OpensDirectory image core → KindsAgree core
opened_kinds image core sound opens =
    let disk = map content_in image.files in
    let files = map now_of (map (opened_file image.entries) image.files) in
    let cache = after no_points image.entries in
    subst KindsAgree (sym opens.same)
    record {
      now = one_kind (files ++ held cache ∷ []) (cut_by image.entries disk ++ held cache ∷ [])
          (within_both files (held cache ∷ []) (cut_by image.entries disk) (held cache ∷ [])
          (λ cell value has. let is = opened_has image.entries image.files cell value has in all_kept image.entries disk cell value is.1 is.0)
          (within_itself (held cache ∷ [])))
          (entries_one image.entries disk no_points
          (takes_below (overlay (disk ++ held no_points ∷ [])) (overlay disk) image.entries
          (same_below (overlay (disk ++ held no_points ∷ [])) (overlay disk) (λ cell. last_shows disk no_points cell)) sound.takes)
          (one_kind (disk ++ held no_points ∷ []) disk
          (λ cell value has. ⊎_elim (λ d. d) (λ none. absurd (⊎_elim (λ is. none_some value is) (λ n. n) none)) (live_either disk (held no_points ∷ []) cell value has))
          sound.kinds));
      disk = subst OneKind (sym (map_of_map (opened_file image.entries) on_disk content_in (λ file. refl) image.files)) sound.kinds;
    }
  where
    none_some : (value : Value) → None ≡ Some value → ⊥
    none_some value e = cc

pub opened_taken : (image : Image) (core : Core) → IsReadableImage image → OpensDirectory image core → EntriesTaken core
opened_taken image core sound opens =
    let entries = drop_at [] (image.entries ++ []) (image.floor - image.floor) (omega arith) ∙ append-nil image.entries in
    subst EntriesTaken (sym opens.same)
    record {
      base = overlay (map content_in image.files);
      takes = subst (AdmitsAll (overlay (map content_in image.files))) (sym entries) sound.takes;
      below = same_below (overlay (map on_disk (map (opened_file image.entries) image.files))) (overlay (map content_in image.files))
          (λ cell. ap (λ (ls : List Content). overlay ls cell) (map_of_map (opened_file image.entries) on_disk content_in (λ file. refl) image.files));
      leads = λ cell. ap (λ (es : List Entry). applied (effects es cell) (overlay (map content_in image.files) cell)) entries ∙ sym (opens.are cell);
    }

pub sound_more : (start : State) (history : List Entry) (image : Image) (entry : Entry) → ImageStands start history image → IsReadableImage image → Admits (λ cell. value_at (after start.points history) cell) entry
    → IsReadableImage (image_with entry image)
sound_more start history image entry stands sound takes = record {
  kinds = sound.kinds;
  takes = takes_more (overlay (map content_in image.files)) image.entries entry sound.takes
      (takes_entry_below (left image.entries (overlay (map content_in image.files))) (λ cell. value_at (after start.points history) cell) entry
      (same_below (left image.entries (overlay (map content_in image.files))) (λ cell. value_at (after start.points history) cell) stands.shows) takes);
}

pub images_sound : (core : Core) → Standing core → KindsAgree core → EntriesTaken core → DoubtsTaken core → (more : List Entry) (image : Image) → MayLeave core more image → IsReadableImage image
images_sound core inv kinds taken doubts more image may =
    ⊎_elim (λ plain. each image plain.1)
    (λ doubt. subst IsReadableImage (sym doubt.3.2) (sound_more core.start core.history doubt.3.0 doubt.0 (each_stands core inv doubt.3.0 doubt.3.1) (each doubt.3.0 doubt.3.1) (doubts.entry doubt.0 doubt.1)))
    may
  where
    each : (image : Image) → Images core image → IsReadableImage image
    each image is = ⊎_elim (λ same. subst IsReadableImage (sym same) (image_sound core kinds taken)) (λ edit. doubts.edit image edit) is
