-- What an entry more makes of the parts.
use Rattle.std.proofs.Common.{◌≡◌, ℕ, Bool, true, false, cond, ◌||◌, List, [], ◌∷◌, ◌++◌, map, length-append, arith, ◌∙◌, ap, sym, refl, Option, Some, None, append_assoc}
use Rattle.std.specs.Prelude.{IfSome, option_map}
use Rattle.std.specs.Option.{option_or}
use Rattle.tsdb_types.specs.declared.point.Cell.{Cell}
use Rattle.tsdb_types.specs.declared.point.Point.{Point}
use Rattle.tsdb_types.specs.declared.value.Value.{Value}
use Rattle.point_model.specs.declared.deletion.Deletion.{Deletion}
use Rattle.point_model.specs.declared.entry.Entry.{Entry}
use Rattle.point_model.specs.declared.entry.Entry.TheVariants.{Write, Delete}
use Rattle.point_model.specs.Deletions.{is_deleted}
use Rattle.point_model.specs.Histories.{State, after}
use Rattle.point_model.specs.Points.{Points, value_at}
use Rattle.point_model.proofs.HistoryLemmas.{after-append}
use Rattle.point_model.proofs.EffectLemmas.{applied_or, effects-append, none_either_way, or_assoc, overlay-append, overlay_spared, value_after_entry}
use Rattle.point_model.specs.Contents.{Content, overlay, spared}
use Rattle.point_model.specs.Effects.{Effect, applied, effect, effects, is_deleted_by}
use Rattle.shard_core.specs.Contents.{held}
use Rattle.shard_core.specs.EntryEvents.{cut_file, cut_merge, cut_snapshot, image_with}
use Rattle.shard_core.specs.Images.{ImageStands}
use Rattle.shard_core.specs.Invariant.{MergeStands, ViewShows}
use Rattle.shard_core.specs.Parts.{IsCutBy, IfSnapshotIs}
use Rattle.shard_core.specs.Files.{content_in, now_of}
use Rattle.shard_core.specs.Shown.{contents_in, snapshot_contents}
use Rattle.shard_core.specs.State.{File, Image, Merge, Snapshot, View}
use Rattle.shard_core.proofs.ListLemmas.{placed_map, some_map}

pub shown_is : (files : List File) (snapshot : Option Snapshot) (cache : Points) (cell : Cell)
    → overlay (contents_in files snapshot cache) cell ≡ option_or (value_at cache cell) (option_or (overlay (snapshot_contents snapshot) cell) (overlay (map now_of files) cell))
shown_is files snapshot cache cell =
    overlay-append (map now_of files) (snapshot_contents snapshot ++ held cache ∷ []) cell
    ∙ ap (λ (o : Option Value). option_or o (overlay (map now_of files) cell)) (overlay-append (snapshot_contents snapshot) (held cache ∷ []) cell)
    ∙ sym (or_assoc (value_at cache cell) (overlay (snapshot_contents snapshot) cell) (overlay (map now_of files) cell))

pub value_more : (points : Points) (history : List Entry) (entry : Entry) (cell : Cell)
    → value_at (after points (history ++ entry ∷ [])) cell ≡ applied (effect entry cell) (value_at (after points history) cell)
value_more points history entry cell =
    ap (λ (ps : Points). value_at ps cell) (after-append points history (entry ∷ [])) ∙ value_after_entry (after points history) entry cell

pub effects_more : (entries : List Entry) (entry : Entry) (cell : Cell) (was : Option Value)
    → applied (effects (entries ++ entry ∷ []) cell) was ≡ applied (effect entry cell) (applied (effects entries cell) was)
effects_more entries entry cell was =
    ap (λ (e : Effect). applied e was) (effects-append entries (entry ∷ []) cell) ∙ applied_or (effects entries cell) (effect entry cell) was

pub view_more : (start : State) (history more : List Entry) (view : View) → ViewShows start history view → ViewShows start (history ++ more) view
view_more start history more view is = record {
  seen = is.seen;
  since = is.since ++ more;
  joined = ap (λ (es : List Entry). es ++ more) is.joined ∙ append_assoc is.seen is.since more;
  counted = is.counted;
  shows = is.shows;
}

pub image_more : (start : State) (history : List Entry) (entry : Entry) (image : Image) → ImageStands start history image → ImageStands start (history ++ entry ∷ []) (image_with entry image)
image_more start history entry image is = record {
  directory = (let own = is.directory in record { generations = own.generations; once = own.once });
  shows = λ cell.
      effects_more image.entries entry cell (overlay (map content_in image.files) cell)
      ∙ ap (λ (o : Option Value). applied (effect entry cell) o) (is.shows cell)
      ∙ sym (value_more start.points history entry cell);
  counted = let a = length-append image.entries (entry ∷ []) in let b = length-append history (entry ∷ []) in let c = is.counted in omega arith;
}

pub edit_more : (start : State) (history : List Entry) (entry : Entry) (edit : Option Image) → IfSome edit (ImageStands start history) → IfSome (option_map (image_with entry) edit) (ImageStands start (history ++ entry ∷ []))
edit_more start history entry None is = tt
edit_more start history entry (Some image) is = image_more start history entry image is

-- which cells the deletions among entries take away, with one entry more
bool_assoc : (a b c : Bool) → (a || (b || c)) ≡ ((a || b) || c)
bool_assoc true b c = refl
bool_assoc false b c = refl

bool_last : (a : Bool) → (a || false) ≡ a
bool_last true = refl
bool_last false = refl

pub deleted_more_write : (entries : List Entry) (client : ℕ) (points : List Point) (cell : Cell) → is_deleted_by (entries ++ Write client points ∷ []) cell ≡ is_deleted_by entries cell
deleted_more_write [] client points cell = refl
deleted_more_write (Write other batch ∷ entries) client points cell = deleted_more_write entries client points cell
deleted_more_write (Delete other deletion ∷ entries) client points cell = ap (λ (b : Bool). is_deleted deletion cell || b) (deleted_more_write entries client points cell)

pub deleted_more_delete : (entries : List Entry) (client : ℕ) (deletion : Deletion) (cell : Cell)
    → is_deleted_by (entries ++ Delete client deletion ∷ []) cell ≡ (is_deleted_by entries cell || is_deleted deletion cell)
deleted_more_delete [] client deletion cell = bool_last (is_deleted deletion cell)
deleted_more_delete (Write other batch ∷ entries) client deletion cell = deleted_more_delete entries client deletion cell
deleted_more_delete (Delete other first ∷ entries) client deletion cell =
    ap (λ (b : Bool). is_deleted first cell || b) (deleted_more_delete entries client deletion cell) ∙ bool_assoc (is_deleted first cell) (is_deleted_by entries cell) (is_deleted deletion cell)

pub follows_same : (deleted deleted' : Cell → Bool) (disk now : Content) → ((cell : Cell) → deleted' cell ≡ deleted cell) → IsCutBy deleted disk now → IsCutBy deleted' disk now
follows_same deleted deleted' disk now same is = record {
  hidden = λ cell e. is.hidden cell (sym (same cell) ∙ e);
  kept = λ cell e. is.kept cell (sym (same cell) ∙ e);
}

hidden_cut : (was now : Bool) (o : Option Value) → (was ≡ true → o ≡ None) → (was || now) ≡ true → cond now None o ≡ None
hidden_cut was true o hidden e = refl
hidden_cut true false o hidden e = hidden refl
hidden_cut false false o hidden e = absurd (cc)

kept_cut : (was now : Bool) (o disk : Option Value) → (was ≡ false → o ≡ disk) → (was || now) ≡ false → cond now None o ≡ disk
kept_cut true now o disk kept e = absurd (cc)
kept_cut false true o disk kept e = absurd (cc)
kept_cut false false o disk kept e = kept refl

pub follows_cut : (deleted deleted' : Cell → Bool) (disk now : Content) (deletion : Deletion) → ((cell : Cell) → deleted' cell ≡ (deleted cell || is_deleted deletion cell))
    → IsCutBy deleted disk now → IsCutBy deleted' disk (spared deletion now)
follows_cut deleted deleted' disk now deletion same is = record {
  hidden = λ cell e. hidden_cut (deleted cell) (is_deleted deletion cell) (now cell) (is.hidden cell) (sym (same cell) ∙ e);
  kept = λ cell e. kept_cut (deleted cell) (is_deleted deletion cell) (now cell) (disk cell) (is.kept cell) (sym (same cell) ∙ e);
}

pub snapshot_write : (floor : ℕ) (first second : List Entry) (client : ℕ) (points : List Point) (snapshot : Option Snapshot)
    → IfSnapshotIs floor first second snapshot → IfSnapshotIs floor first (second ++ Write client points ∷ []) snapshot
snapshot_write floor first second client points None is = is
snapshot_write floor first second client points (Some snapshot) is = record {
  points = is.points;
  follows = follows_same (is_deleted_by second) (is_deleted_by (second ++ Write client points ∷ [])) (held snapshot.points) snapshot.now (deleted_more_write second client points) is.follows;
  counted = is.counted;
}

pub snapshot_delete : (floor : ℕ) (first second : List Entry) (client : ℕ) (deletion : Deletion) (snapshot : Option Snapshot)
    → IfSnapshotIs floor first second snapshot → IfSnapshotIs floor first (second ++ Delete client deletion ∷ []) (option_map (cut_snapshot deletion) snapshot)
snapshot_delete floor first second client deletion None is = is
snapshot_delete floor first second client deletion (Some snapshot) is = record {
  points = is.points;
  follows = follows_cut (is_deleted_by second) (is_deleted_by (second ++ Delete client deletion ∷ [])) (held snapshot.points) snapshot.now deletion (deleted_more_delete second client deletion) is.follows;
  counted = is.counted;
}

-- entries joined in three parts, with one entry more
pub joined_more : (past history settled first second more : List Entry) → past ++ history ≡ settled ++ (first ++ second) → past ++ (history ++ more) ≡ settled ++ (first ++ (second ++ more))
joined_more past history settled first second more joined =
    sym (append_assoc past history more) ∙ ap (λ (es : List Entry). es ++ more) joined ∙ append_assoc settled (first ++ second) more
    ∙ ap (λ (es : List Entry). settled ++ es) (append_assoc first second more)

pub contents_cut : (deletion : Deletion) (files : List File) → map now_of (map (cut_file deletion) files) ≡ map (spared deletion) (map now_of files)
contents_cut deletion [] = refl
contents_cut deletion (file ∷ files) = ap (λ (cs : List Content). spared deletion file.now ∷ cs) (contents_cut deletion files)

pub files_cut : (deletion : Deletion) (files : List File) (cell : Cell) → overlay (map now_of (map (cut_file deletion) files)) cell ≡ cond (is_deleted deletion cell) None (overlay (map now_of files) cell)
files_cut deletion files cell = ap (λ (ls : List Content). overlay ls cell) (contents_cut deletion files) ∙ overlay_spared deletion (map now_of files) cell

pub snapshot_cut : (deletion : Deletion) (snapshot : Option Snapshot) (cell : Cell)
    → overlay (snapshot_contents (option_map (cut_snapshot deletion) snapshot)) cell ≡ cond (is_deleted deletion cell) None (overlay (snapshot_contents snapshot) cell)
snapshot_cut deletion None cell = none_either_way (is_deleted deletion cell)
snapshot_cut deletion (Some snapshot) cell = refl

pub merge_cut : (deletion : Deletion) (files : List File) (merge : Merge) → MergeStands files merge → MergeStands (map (cut_file deletion) files) (cut_merge deletion merge)
merge_cut deletion files merge is = record {
  before = map (cut_file deletion) is.before;
  behind = map (cut_file deletion) is.behind;
  placed = ap (map (cut_file deletion)) is.placed ∙ placed_map (cut_file deletion) is.before merge.sources is.behind;
  some = some_map (cut_file deletion) merge.sources is.some;
  within = λ cell none. gone (is_deleted deletion cell) (merge.now cell) (is.within cell none);
  shows = λ cell. ap (λ (o : Option Value). cond (is_deleted deletion cell) None o) (is.shows cell) ∙ sym (files_cut deletion merge.sources cell);
}
  where
    gone : (deleted : Bool) (o : Option Value) → o ≡ None → cond deleted None o ≡ None
    gone true o e = refl
    gone false o e = e
