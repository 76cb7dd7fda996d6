-- What a directory stands for.
use Rattle.std.proofs.Common.{◌≡◌, ⊎_elim, ℕ, suc, ◌-◌, arith, Bool, true, false, cond, ◌||◌, List, [], ◌∷◌, ◌++◌, map, drop, length, length-append, ◌∙◌, ap, ap₂, sym, refl, subst, Option, Some, None, append-nil, drop_at}
use Rattle.std.specs.Prelude.{IfSome}
use Rattle.std.specs.Option.{option_or}
use Rattle.std.specs.List.{AllByRecursion}
use Rattle.tsdb_types.specs.declared.point.Cell.{Cell}
use Rattle.tsdb_types.specs.declared.value.Value.{Value}
use Rattle.point_model.specs.declared.entry.Entry.{Entry}
use Rattle.point_model.specs.declared.entry.Entry.TheVariants.{Write, Delete}
use Rattle.point_model.specs.Deletions.{is_deleted}
use Rattle.point_model.specs.Histories.{after}
use Rattle.point_model.specs.Cursors.{Key}
use Rattle.point_model.specs.Points.{Points, no_points, value_at}
use Rattle.point_model.proofs.EffectLemmas.{IsSet, effects-append, value_after, written_sets}
use Rattle.point_model.specs.Contents.{Content, overlay}
use Rattle.point_model.specs.Effects.{Effect, applied, effects, is_deleted_by, written}
use Rattle.shard_core.specs.Crashes.{Images, MayLeave, OpensDirectory, opened, opened_file}
use Rattle.shard_core.specs.Images.{ImageStands, IsDirectory, image_value}
use Rattle.shard_core.specs.Invariant.{IsIndex}
use Rattle.shard_core.specs.Numbers.{Climbs, count, stored_names}
use Rattle.shard_core.specs.Parts.{FileIsCut, IfSnapshotIs, StandsInParts}
use Rattle.shard_core.specs.Files.{content_in, generation_in, generation_of, now_of, on_disk, stored_of}
use Rattle.shard_core.specs.Shown.{contents_in, image_of, snapshot_contents}
use Rattle.shard_core.specs.State.{Core, File, Image, Snapshot, StoredFile}
use Rattle.shard_core.proofs.ListLemmas.{map_of_map}
use Rattle.shard_core.proofs.MergeLaws.{overlay_hidden}
use Rattle.shard_core.proofs.PartLemmas.{image_more, shown_is}
use Rattle.shard_core.proofs.Standing.{Standing}

-- a cell that ends deleted is one that a deletion takes away, and one that isn't touched isn't
set_last : (o w : Effect) (D : Type 0) → IsSet w → (o ≡ Some None → D) → option_or o w ≡ Some None → D
set_last None w D s h e = absurd (subst IsSet e s)
set_last (Some x) w D s h e = h e

cut_last : (o : Effect) (b r : Bool) → (o ≡ Some None → r ≡ true) → option_or o (cond b (Some None) None) ≡ Some None → (b || r) ≡ true
cut_last o true r h e = refl
cut_last None false r h e = absurd (cc)
cut_last (Some x) false r h e = h e

pub ends_deleted : (entries : List Entry) (cell : Cell) → effects entries cell ≡ Some None → is_deleted_by entries cell ≡ true
ends_deleted [] cell e = absurd (cc)
ends_deleted (Write client points ∷ entries) cell e = set_last (effects entries cell) (written points cell) (is_deleted_by entries cell ≡ true) (written_sets points cell) (ends_deleted entries cell) e
ends_deleted (Delete client deletion ∷ entries) cell e = cut_last (effects entries cell) (is_deleted deletion cell) (is_deleted_by entries cell) (ends_deleted entries cell) e

none_left : (o w : Effect) → option_or o w ≡ None → o ≡ None
none_left None w e = refl
none_left (Some x) w e = absurd (cc)

none_cut : (o : Effect) (b r : Bool) → (o ≡ None → r ≡ false) → option_or o (cond b (Some None) None) ≡ None → (b || r) ≡ false
none_cut (Some x) b r h e = absurd (cc)
none_cut None true r h e = absurd (cc)
none_cut None false r h e = h refl

pub untouched : (entries : List Entry) (cell : Cell) → effects entries cell ≡ None → is_deleted_by entries cell ≡ false
untouched [] cell e = refl
untouched (Write client points ∷ entries) cell e = untouched entries cell (none_left (effects entries cell) (written points cell) e)
untouched (Delete client deletion ∷ entries) cell e = none_cut (effects entries cell) (is_deleted deletion cell) (is_deleted_by entries cell) (untouched entries cell) e

pub deleted-append : (first second : List Entry) (cell : Cell) → is_deleted_by (first ++ second) cell ≡ (is_deleted_by first cell || is_deleted_by second cell)
deleted-append [] second cell = refl
deleted-append (Write client points ∷ first) second cell = deleted-append first second cell
deleted-append (Delete client deletion ∷ first) second cell =
    ap (λ (b : Bool). is_deleted deletion cell || b) (deleted-append first second cell) ∙ assoc (is_deleted deletion cell) (is_deleted_by first cell) (is_deleted_by second cell)
  where
    assoc : (a b c : Bool) → (a || (b || c)) ≡ ((a || b) || c)
    assoc true b c = refl
    assoc false b c = refl

or_true : (a b : Bool) → b ≡ true → (a || b) ≡ true
or_true true b e = refl
or_true false b e = e

true_or : (a b : Bool) → a ≡ true → (a || b) ≡ true
true_or true b e = refl
true_or false b e = absurd (cc)

or_false : (a b : Bool) → a ≡ false → b ≡ false → (a || b) ≡ false
or_false true b e f = absurd (cc)
or_false false b e f = f

-- One cell: the cache has what the second entries leave on nothing, the snapshot what the first ones leave, and the files what
-- the disk has, each where no later deletion takes it away.
combined : (e1 e2 : Effect) (d1 d2 d : Bool) (s f disk : Option Value) → d ≡ (d1 || d2) → (e1 ≡ None → d1 ≡ false) → (e1 ≡ Some None → d1 ≡ true) → (e2 ≡ None → d2 ≡ false) → (e2 ≡ Some None → d2 ≡ true)
    → (d2 ≡ true → s ≡ None) → (d2 ≡ false → s ≡ applied e1 None) → (d ≡ true → f ≡ None) → (d ≡ false → f ≡ disk)
    → option_or (applied e2 None) (option_or s f) ≡ applied (option_or e2 e1) disk
combined e1 (Some (Some v)) d1 d2 d s f disk both n1 k1 n2 k2 sa sb fa fb = refl
combined e1 (Some None) d1 d2 d s f disk both n1 k1 n2 k2 sa sb fa fb =
    ap₂ (λ (a b : Option Value). option_or a b) (sa (k2 refl)) (fa (both ∙ or_true d1 d2 (k2 refl)))
combined (Some (Some v)) None d1 d2 d s f disk both n1 k1 n2 k2 sa sb fa fb = ap (λ (o : Option Value). option_or o f) (sb (n2 refl))
combined (Some None) None d1 d2 d s f disk both n1 k1 n2 k2 sa sb fa fb =
    ap₂ (λ (a b : Option Value). option_or a b) (sb (n2 refl)) (fa (both ∙ true_or d1 d2 (k1 refl)))
combined None None d1 d2 d s f disk both n1 k1 n2 k2 sa sb fa fb =
    ap₂ (λ (a b : Option Value). option_or a b) (sb (n2 refl)) (fb (both ∙ or_false d1 d2 (n1 refl) (n2 refl)))

-- where no deletion takes a cell away the files have what the disk has
disk_same : (entries : List Entry) (files : List File) → AllByRecursion (FileIsCut entries) files → (cell : Cell) → is_deleted_by entries cell ≡ false
    → overlay (map now_of files) cell ≡ overlay (map on_disk files) cell
disk_same entries [] follow cell e = refl
disk_same entries (file ∷ files) follow cell e =
    ap₂ (λ (a b : Option Value). option_or a b) (disk_same entries files follow.1 cell e)
    (let is = follow.0 in is.kept cell e)

snapshot_hidden : (floor : ℕ) (first second : List Entry) (snapshot : Option Snapshot) → IfSnapshotIs floor first second snapshot → (cell : Cell) → is_deleted_by second cell ≡ true
    → overlay (snapshot_contents snapshot) cell ≡ None
snapshot_hidden floor first second None is cell e = refl
snapshot_hidden floor first second (Some snapshot) is cell e = is.follows.hidden cell e

snapshot_value : (floor : ℕ) (first second : List Entry) (snapshot : Option Snapshot) → IfSnapshotIs floor first second snapshot → (cell : Cell) → is_deleted_by second cell ≡ false
    → overlay (snapshot_contents snapshot) cell ≡ applied (effects first cell) None
snapshot_value floor first second None is cell e = ap (λ (es : List Entry). applied (effects es cell) None) (sym is)
snapshot_value floor first second (Some snapshot) is cell e =
    is.follows.kept cell e ∙ is.points cell

-- the contents show what the disk's do under the entries past the floor
pub parts_show : (files : List File) (snapshot : Option Snapshot) (cache : Points) (floor : ℕ) (first second : List Entry)
    → ((cell : Cell) → value_at cache cell ≡ applied (effects second cell) None) → IfSnapshotIs floor first second snapshot → AllByRecursion (FileIsCut (first ++ second)) files
    → (cell : Cell) → overlay (contents_in files snapshot cache) cell ≡ applied (effects (first ++ second) cell) (overlay (map on_disk files) cell)
parts_show files snapshot cache floor first second has is follow cell =
    shown_is files snapshot cache cell
    ∙ ap (λ (o : Option Value). option_or o (option_or (overlay (snapshot_contents snapshot) cell) (overlay (map now_of files) cell))) (has cell)
    ∙ combined (effects first cell) (effects second cell) (is_deleted_by first cell) (is_deleted_by second cell) (is_deleted_by (first ++ second) cell)
    (overlay (snapshot_contents snapshot) cell) (overlay (map now_of files) cell) (overlay (map on_disk files) cell)
    (deleted-append first second cell) (untouched first cell) (ends_deleted first cell) (untouched second cell) (ends_deleted second cell)
    (snapshot_hidden floor first second snapshot is cell) (snapshot_value floor first second snapshot is cell) (overlay_hidden (first ++ second) files follow cell) (disk_same (first ++ second) files follow cell)
    ∙ ap (λ (e : Effect). applied e (overlay (map on_disk files) cell)) (sym (effects-append first second cell))

module _ (core : Core) (inv : Standing core) where
  abbrev parts : StandsInParts core
  parts = inv.parts

  pub entries_are : drop (core.floor - core.origin) (core.past ++ core.history) ≡ parts.first ++ parts.second
  entries_are =
      ap (drop (core.floor - core.origin)) parts.joined
      ∙ drop_at parts.settled (parts.first ++ parts.second) (core.floor - core.origin) (let e = parts.floor in omega arith)

  disk_shows : (cell : Cell) → overlay (map content_in (map stored_of core.files)) cell ≡ overlay (map on_disk core.files) cell
  disk_shows cell = ap (λ (cs : List Content). overlay cs cell) (map_of_map stored_of content_in on_disk (λ file. refl) core.files)

  -- the disk stands for the points after the history
  pub image_stands : ImageStands core.start core.history (image_of core)
  image_stands = record {
    directory = record {
      generations = subst (λ (ns : List ℕ). Climbs 0 ns (suc core.floor)) (sym (map_of_map stored_of generation_in generation_of (λ file. refl) core.files)) inv.generations;
      once = λ n. let e = inv.once n in omega arith;
    };
    shows = λ cell.
        ap₂ (λ (es : List Entry) (o : Option Value). applied (effects es cell) o) entries_are (disk_shows cell)
        ∙ sym (parts_show core.files core.snapshot core.cache core.floor parts.first parts.second parts.cache parts.snapshot parts.files cell)
        ∙ inv.shows cell;
    counted =
        let a = ap (λ (es : List Entry). length es) entries_are in
        let b = ap (λ (es : List Entry). length es) parts.joined in
        let c = length-append core.past core.history in
        let d = length-append parts.settled (parts.first ++ parts.second) in
        let e = parts.floor in
        let f = parts.began in
        omega arith;
  }

  pub each_stands : (image : Image) → Images core image → ImageStands core.start core.history image
  each_stands image is =
      ⊎_elim (λ same. subst (ImageStands core.start core.history) (sym same) image_stands)
      (λ edit. subst (λ (o : Option Image). IfSome o (ImageStands core.start core.history)) edit inv.edit) is

  pub images_stand : (more : List Entry) (image : Image) → MayLeave core more image → ImageStands core.start (core.history ++ more) image
  images_stand more image left =
      ⊎_elim
      (λ plain. subst (λ (es : List Entry). ImageStands core.start es image) (sym (ap (λ (es : List Entry). core.history ++ es) plain.0 ∙ append-nil core.history)) (each_stands image plain.1))
      (λ doubt. subst (λ (es : List Entry). ImageStands core.start (core.history ++ es) image) (sym doubt.2)
      (subst (ImageStands core.start (core.history ++ doubt.0 ∷ [])) (sym doubt.3.2) (image_more core.start core.history doubt.0 doubt.3.0 (each_stands doubt.3.0 doubt.3.1))))
      left

opened_follows : (entries : List Entry) (file : StoredFile) → FileIsCut entries (opened_file entries file)
opened_follows entries file = record {
  hidden = λ cell e. ap (λ (b : Bool). cond b None (file.content cell)) e;
  kept = λ cell e. ap (λ (b : Bool). cond b None (file.content cell)) e;
}

stored_opened : (entries : List Entry) (files : List StoredFile) → map stored_of (map (opened_file entries) files) ≡ files
stored_opened entries [] = refl
stored_opened entries (file ∷ files) = ap (λ (fs : List StoredFile). file ∷ fs) (stored_opened entries files)

all_opened : (entries : List Entry) (files : List StoredFile) → AllByRecursion (FileIsCut entries) (map (opened_file entries) files)
all_opened entries [] = tt
all_opened entries (file ∷ files) = (opened_follows entries file, all_opened entries files)

module _ (image : Image) (points : Points) (directory : IsDirectory image) (are : (cell : Cell) → value_at points cell ≡ image_value image cell)
    (index stored : Key → Bool) (is_index : IsIndex points index) where
  pub opened_keeps : Standing (opened image points index stored)
  opened_keeps = record {
    shows = λ cell.
        parts_show (map (opened_file image.entries) image.files) None (after no_points image.entries) image.floor [] image.entries (value_after no_points image.entries) refl (all_opened image.entries image.files) cell
        ∙ ap (λ (ls : List Content). applied (effects image.entries cell) (overlay ls cell)) (map_of_map (opened_file image.entries) on_disk content_in (λ file. refl) image.files)
        ∙ sym (are cell);
    views = tt;
    merges = tt;
    apart = tt;
    parts = record {
      settled = [];
      first = [];
      second = image.entries;
      joined = append-nil image.entries;
      began = refl;
      floor = omega arith;
      cache = value_after no_points image.entries;
      snapshot = refl;
      files = all_opened image.entries image.files;
    };
    generations = subst (λ (ns : List ℕ). Climbs 0 ns (suc image.floor)) (sym (map_of_map (opened_file image.entries) generation_of generation_in (λ file. refl) image.files)) directory.generations;
    holds = λ n. refl;
    present = λ n held. absurd (let e = held in omega arith);
    once = λ n. let a = directory.once n in let b = ap (λ (files : List StoredFile). count n (stored_names files)) (stored_opened image.entries image.files) in omega arith;
    edit = tt;
    index = is_index;
  }

pub opens_keeps : (image : Image) (core : Core) → IsDirectory image → OpensDirectory image core → Standing core
opens_keeps image core directory opens = subst Standing (sym opens.same) (opened_keeps image opens.points directory opens.are opens.index opens.stored opens.is_index)
