-- The other events keep the invariant.
use Rattle.std.proofs.Common.{◌≡◌, ⊎_elim, inl, inr, ne_eqb, ℕ, zero, suc, ◌+◌, ◌-◌, ◌<◌, ◌≤◌, arith, Bool, true, false, not, cond, ◌==◌, ◌&&◌, List, [], ◌∷◌, ◌++◌, map, length, length-append, ◌∙◌, ap, sym, refl, subst, Option, Some, None, append-nil}
use Rattle.std.specs.Prelude.{IfSome, filter}
use Rattle.std.specs.Option.{option_or}
use Rattle.std.specs.List.{AllByRecursion}
use Rattle.std.proofs.lemmas.List.{map-append}
use Rattle.point_model.specs.declared.entry.Entry.{Entry}
use Rattle.point_model.specs.Histories.{State}
use Rattle.point_model.specs.Cursors.{Key}
use Rattle.point_model.specs.Points.{no_points, value_at}
use Rattle.point_model.specs.Contents.{Content, overlay}
use Rattle.shard_core.specs.Contents.{held}
use Rattle.shard_core.specs.Crashes.{CrashesAndOpens}
use Rattle.shard_core.specs.DiskEvents.{CompactsIndex, DoubtsEdit, RecordsFiles, SettlesEdit, StoresChanges, StoresIndex, WouldMake, name_some, name_sources}
use Rattle.shard_core.specs.EntryEvents.{DoubtsEntry, EndsEntryDoubt}
use Rattle.shard_core.specs.Images.{ImageStands}
use Rattle.shard_core.specs.Invariant.{MergeStands, ViewShows}
use Rattle.shard_core.specs.MergeEvents.{AbandonsMerge, BeginsMerge}
use Rattle.shard_core.specs.Numbers.{AreDisjoint, Climbs, count, held_by_merges, held_by_views, names_of}
use Rattle.shard_core.specs.Parts.{FileIsCut, IfSnapshotIs, StandsInParts}
use Rattle.shard_core.specs.SnapshotEvents.{AbandonsSnapshot, BeginsSnapshot, Renames, name_all, with_snapshot}
use Rattle.shard_core.specs.Files.{generation_of, now_of, file_number, source_numbers}
use Rattle.shard_core.specs.Shown.{image_of, snapshot_contents}
use Rattle.shard_core.specs.State.{Core, File, Image, Merge, Snapshot, View, last_of}
use Rattle.shard_core.specs.ViewEvents.{BeginsView, EndsView, Purges, is_gone, view_of}
use Rattle.shard_core.proofs.ImageLemmas.{image_stands, images_stand, opens_keeps}
use Rattle.shard_core.proofs.ListLemmas.{all_append, all_left, all_over_map, all_right, apart_without, count-append, count_filtered, count_kept, held_same, held_without, held_without_view, placed_map, same_map, some_map}
use Rattle.shard_core.proofs.MergeLaws.{end_merge_keeps}
use Rattle.shard_core.proofs.PartLemmas.{shown_is}
use Rattle.shard_core.proofs.SnapshotLaws.{end_snapshot_keeps}
use Rattle.shard_core.proofs.Standing.{Standing}

-- what the parts don't speak of may change
pub parts_with : (core : Core) (merges : List Merge) (views : List View) (condemned : List ℕ) (holds : ℕ → ℕ) (doubt : Option Entry) (edit : Option Image) → StandsInParts core
    → StandsInParts record core { merges = merges; views = views; condemned = condemned; holds = holds; doubt = doubt; edit = edit }
parts_with core merges views condemned holds doubt edit parts = record {
  settled = parts.settled;
  first = parts.first;
  second = parts.second;
  joined = parts.joined;
  began = parts.began;
  floor = parts.floor;
  cache = parts.cache;
  snapshot = parts.snapshot;
  files = parts.files;
}

pub doubts_keeps : (core : Core) (doubt : Option Entry) → Standing core → Standing record core { doubt = doubt }
doubts_keeps core doubt inv = record {
  shows = inv.shows;
  views = inv.views;
  merges = inv.merges;
  apart = inv.apart;
  parts = parts_with core core.merges core.views core.condemned core.holds doubt core.edit inv.parts;
  generations = inv.generations;
  holds = inv.holds;
  present = inv.present;
  once = inv.once;
  edit = inv.edit;
  index = inv.index;
}

pub doubt_keeps : (old new : Core) → DoubtsEntry old new → Standing old → Standing new
doubt_keeps old new doubts inv = subst Standing (sym doubts.same) (doubts_keeps old (Some doubts.entry) inv)

pub settle_keeps : (old new : Core) → EndsEntryDoubt old new → Standing old → Standing new
settle_keeps old new settles inv = subst Standing (sym settles) (doubts_keeps old None inv)

pub edits_keeps : (core : Core) (edit : Option Image) → IfSome edit (ImageStands core.start core.history) → Standing core → Standing record core { edit = edit }
edits_keeps core edit stands inv = record {
  shows = inv.shows;
  views = inv.views;
  merges = inv.merges;
  apart = inv.apart;
  parts = parts_with core core.merges core.views core.condemned core.holds core.doubt edit inv.parts;
  generations = inv.generations;
  holds = inv.holds;
  present = inv.present;
  once = inv.once;
  edit = stands;
  index = inv.index;
}

pub settle_edit_keeps : (old new : Core) → SettlesEdit old new → Standing old → Standing new
settle_edit_keeps old new settles inv = subst Standing (sym settles) (edits_keeps old None tt inv)

-- the snapshot stands, with another state of its job, and files that were adopted are condemned
pub job_keeps : (core : Core) (snapshot : Snapshot) (out : Bool) (adopted : List ℕ) (doubt : Option Entry) → core.snapshot ≡ Some snapshot
    → ((n : ℕ) → count n adopted + (count n (names_of core.files) + count n core.condemned) ≤ 1) → Standing core
    → Standing record core { snapshot = Some (record snapshot { out = out }); condemned = adopted ++ core.condemned; doubt = doubt }
job_keeps core snapshot out adopted doubt stands unused inv = record {
  shows = λ cell.
      shown_is core.files (Some (record snapshot { out = out })) core.cache cell
      ∙ ap (λ (s : Option Snapshot). option_or (value_at core.cache cell) (option_or (overlay (snapshot_contents s) cell) (overlay (map now_of core.files) cell))) (sym stands)
      ∙ sym (shown_is core.files core.snapshot core.cache cell)
      ∙ inv.shows cell;
  views = inv.views;
  merges = inv.merges;
  apart = inv.apart;
  parts =
      let parts = inv.parts in
      let is = subst (λ (s : Option Snapshot). IfSnapshotIs core.floor parts.first parts.second s) stands parts.snapshot in
      record {
        settled = parts.settled;
        first = parts.first;
        second = parts.second;
        joined = parts.joined;
        began = parts.began;
        floor = parts.floor;
        cache = parts.cache;
        snapshot = record { points = is.points; follows = is.follows; counted = is.counted };
        files = parts.files;
      };
  generations = inv.generations;
  holds = inv.holds;
  present = λ n held. let e = inv.present n held in let a = count-append n adopted core.condemned in omega arith;
  once = λ n. let e = unused n in let a = count-append n adopted core.condemned in omega arith;
  edit = inv.edit;
  index = inv.index;
}

pub abandon_snapshot_keeps : (old new : Core) → AbandonsSnapshot old new → Standing old → Standing new
abandon_snapshot_keeps old new abandons inv =
    subst Standing (sym abandons.same) (job_keeps old abandons.snapshot false abandons.adopted old.doubt abandons.stands abandons.unused inv)

begin_first : (core : Core) → core.snapshot ≡ None → Standing core → Standing (with_snapshot core)
begin_first core none inv =
    let parts = inv.parts in
    let nil = subst (λ (s : Option Snapshot). IfSnapshotIs core.floor parts.first parts.second s) none parts.snapshot in
    record {
      shows = λ cell.
          shown_is core.files (Some (record { points = core.cache; now = held core.cache; number = last_of core; out = true })) no_points cell
          ∙ ap (λ (s : Option Snapshot). option_or (value_at core.cache cell) (option_or (overlay (snapshot_contents s) cell) (overlay (map now_of core.files) cell))) (sym none)
          ∙ sym (shown_is core.files core.snapshot core.cache cell)
          ∙ inv.shows cell;
      views = inv.views;
      merges = inv.merges;
      apart = inv.apart;
      parts = record {
        settled = parts.settled;
        first = parts.second;
        second = [];
        joined = parts.joined ∙ ap (λ (es : List Entry). parts.settled ++ (es ++ parts.second)) nil ∙ ap (λ (es : List Entry). parts.settled ++ es) (sym (append-nil parts.second));
        began = parts.began;
        floor = parts.floor;
        cache = λ cell. refl;
        snapshot = record {
          points = parts.cache;
          follows = record { hidden = λ cell e. absurd (cc); kept = λ cell e. refl };
          counted =
              let a = ap (λ (es : List Entry). length es) (parts.joined ∙ ap (λ (es : List Entry). parts.settled ++ (es ++ parts.second)) nil) in
              let b = length-append core.past core.history in
              let c = length-append parts.settled parts.second in
              let d = parts.began in
              let e = parts.floor in
              omega arith;
        };
        files = subst (λ (es : List Entry). AllByRecursion (FileIsCut es) core.files) (ap (λ (es : List Entry). es ++ parts.second) nil ∙ sym (append-nil parts.second)) parts.files;
      };
      generations = inv.generations;
      holds = inv.holds;
      present = inv.present;
      once = inv.once;
      edit = tt;
      index = inv.index;
    }

pub begin_snapshot_keeps : (old new : Core) → BeginsSnapshot old new → Standing old → Standing new
begin_snapshot_keeps old new begins inv =
    ⊎_elim (λ first. subst Standing (sym first.1) (begin_first old first.0 inv))
    (λ again. subst Standing (sym again.3) (job_keeps old again.0 true [] None again.1 (λ n. let e = inv.once n in omega arith) inv)) begins

pub begin_merge_keeps : (old new : Core) → BeginsMerge old new → Standing old → Standing new
begin_merge_keeps old new begins inv =
    let may = begins.may in
    let merge = begins.merge in
    let stands : MergeStands old.files merge = record {
      before = may.before;
      behind = may.behind;
      placed = may.placed;
      some = may.some;
      within = λ cell none. may.now cell ∙ none;
      shows = λ cell. may.now cell ∙ may.output cell;
    } in
    subst Standing (sym begins.same)
    record {
      shows = inv.shows;
      views = inv.views;
      merges = (stands, inv.merges);
      apart = (may.idle, inv.apart);
      parts = parts_with old (merge ∷ old.merges) old.views old.condemned (λ n. old.holds n + count n (source_numbers merge)) old.doubt old.edit inv.parts;
      generations = inv.generations;
      holds = λ n. let e = inv.holds n in omega arith;
      present = λ n held.
          let was = inv.present n in
          let a = ap (λ (fs : List File). count n (map file_number fs)) may.placed ∙ ap (count n) (placed_map file_number may.before merge.sources may.behind) in
          let b = count-append n (map file_number may.before) (map file_number merge.sources ++ map file_number may.behind) in
          let c = count-append n (map file_number merge.sources) (map file_number may.behind) in
          now_held (old.holds n) (count n (source_numbers merge)) (count n (map file_number old.files) + count n old.condemned) was (omega arith) held;
      once = inv.once;
      edit = inv.edit;
      index = inv.index;
    }
  where
    now_held : (was more there : ℕ) → (0 < was → 0 < there) → more ≤ there → 0 < was + more → 0 < there
    now_held zero more there present few held = let e = held in omega arith
    now_held (suc was) more there present few held = present (omega arith)

pub abandon_merge_keeps : (old new : Core) → AbandonsMerge old new → Standing old → Standing new
abandon_merge_keeps old new abandons inv =
    let earlier = abandons.earlier in
    let merge = abandons.merge in
    let others = abandons.others in
    let stand = subst (λ (merges : List Merge). AllByRecursion (MergeStands old.files) merges) abandons.listed inv.merges in
    let without = apart_without (map source_numbers earlier) (source_numbers merge) (map source_numbers others)
    (subst AreDisjoint (ap (map source_numbers) abandons.listed ∙ map-append source_numbers earlier (merge ∷ others)) inv.apart) in
    subst Standing (sym abandons.same)
    record {
      shows = inv.shows;
      views = inv.views;
      merges = all_append (MergeStands old.files) earlier others (all_left (MergeStands old.files) earlier (merge ∷ others) stand)
          (let right = all_right (MergeStands old.files) earlier (merge ∷ others) stand in right.1);
      apart = subst AreDisjoint (sym (map-append source_numbers earlier others)) without.apart;
      parts = parts_with old (earlier ++ others) old.views (abandons.adopted ++ old.condemned) (λ n. old.holds n - count n (source_numbers merge)) old.doubt old.edit inv.parts;
      generations = inv.generations;
      holds = λ n.
          let was = inv.holds n in
          let merges = ap (held_by_merges n) abandons.listed ∙ held_without n earlier merge others in
          omega arith;
      present = λ n held. let was = inv.present n (let e = held in omega arith) in let a = count-append n abandons.adopted old.condemned in omega arith;
      once = λ n. let e = abandons.unused n in let a = count-append n abandons.adopted old.condemned in omega arith;
      edit = inv.edit;
      index = inv.index;
    }

pub begin_view_keeps : (old new : Core) → BeginsView old new → Standing old → Standing new
begin_view_keeps old new begins inv =
    let view = view_of old begins.held in
    let shows : ViewShows old.start old.history view = record {
      seen = old.history;
      since = [];
      joined = sym (append-nil old.history);
      counted = refl;
      shows = inv.shows;
    } in
    subst Standing (sym begins.same)
    record {
      shows = inv.shows;
      views = (shows, inv.views);
      merges = inv.merges;
      apart = inv.apart;
      parts = parts_with old old.merges (view ∷ old.views) old.condemned (λ n. old.holds n + count n begins.held) old.doubt old.edit inv.parts;
      generations = inv.generations;
      holds = λ n. let e = inv.holds n in omega arith;
      present = λ n held. now_held (old.holds n) (count n begins.held) (count n (map file_number old.files)) (count n old.condemned) (inv.present n) (begins.present n) held;
      once = inv.once;
      edit = inv.edit;
      index = inv.index;
    }
  where
    now_held : (was more files condemned : ℕ) → (0 < was → 0 < files + condemned) → (0 < more → 0 < files) → 0 < was + more → 0 < files + condemned
    now_held zero more files condemned present there held = let e = there (let h = held in omega arith) in omega arith
    now_held (suc was) more files condemned present there held = present (omega arith)

pub end_view_keeps : (old new : Core) → EndsView old new → Standing old → Standing new
end_view_keeps old new ends inv =
    let earlier = ends.earlier in
    let view = ends.view in
    let others = ends.others in
    let shows = ViewShows old.start old.history in
    let all = subst (λ (views : List View). AllByRecursion (ViewShows old.start old.history) views) ends.listed inv.views in
    subst Standing (sym ends.same)
    record {
      shows = inv.shows;
      views = all_append (ViewShows old.start old.history) earlier others (all_left (ViewShows old.start old.history) earlier (view ∷ others) all)
          (let right = all_right (ViewShows old.start old.history) earlier (view ∷ others) all in right.1);
      merges = inv.merges;
      apart = inv.apart;
      parts = parts_with old old.merges (earlier ++ others) old.condemned (λ n. old.holds n - count n view.held) old.doubt old.edit inv.parts;
      generations = inv.generations;
      holds = λ n.
          let was = inv.holds n in
          let views = ap (held_by_views n) ends.listed ∙ held_without_view n earlier view others in
          omega arith;
      present = λ n held. inv.present n (let e = held in omega arith);
      once = inv.once;
      edit = inv.edit;
      index = inv.index;
    }

held_stays : (holds : ℕ) (reached : Bool) → 0 < holds → not ((holds == 0) && reached) ≡ true
held_stays holds reached held = ap (λ (b : Bool). not (b && reached)) (ne_eqb holds 0 (λ e. let h = held in let f = e in omega arith))

pub purge_keeps : (old new : Core) → Purges old new → Standing old → Standing new
purge_keeps old new purges inv =
    let test : ℕ → Bool = λ n. not (is_gone old.holds purges.reached n) in
    subst Standing (sym purges.same)
    record {
      shows = inv.shows;
      views = inv.views;
      merges = inv.merges;
      apart = inv.apart;
      parts = parts_with old old.merges old.views (filter test old.condemned) old.holds old.doubt old.edit inv.parts;
      generations = inv.generations;
      holds = inv.holds;
      present = λ n held.
          let was = inv.present n held in
          let a = count_kept test n (held_stays (old.holds n) (purges.reached n) held) old.condemned in
          omega arith;
      once = λ n. let was = inv.once n in let a = count_filtered test n old.condemned in omega arith;
      edit = inv.edit;
      index = inv.index;
    }

same_either : {A : Type 0} (f : File → A) (b : Bool) (x y : File) → f x ≡ f y → f (cond b x y) ≡ f y
same_either f true x y e = e
same_either f false x y e = refl

follows_either : (entries : List Entry) (tomb : Option ℕ) (b : Bool) (file : File) → FileIsCut entries file
    → FileIsCut entries (cond b (record {
      stored = record { no = file.stored.no; generation = file.stored.generation; tomb = tomb; content = file.now };
      now = file.now;
    }) file)
follows_either entries tomb true file is = record { hidden = is.hidden; kept = λ cell e. refl }
follows_either entries tomb false file is = is

module _ (chosen : File → Bool) (tombs : File → Option ℕ) where
  abbrev name : File → File
  name = name_some chosen tombs

  contents_named : (files : List File) → map now_of (map name files) ≡ map now_of files
  contents_named files = same_map now_of name (λ file. same_either now_of (chosen file) (name_all tombs file) file refl) files

  numbers_named : (files : List File) → map file_number (map name files) ≡ map file_number files
  numbers_named files = same_map file_number name (λ file. same_either file_number (chosen file) (name_all tombs file) file refl) files

  generations_named : (files : List File) → map generation_of (map name files) ≡ map generation_of files
  generations_named files = same_map generation_of name (λ file. same_either generation_of (chosen file) (name_all tombs file) file refl) files

  merge_named : (files : List File) (merge : Merge) → MergeStands files merge → MergeStands (map name files) (name_sources chosen tombs merge)
  merge_named files merge is = record {
    before = map name is.before;
    behind = map name is.behind;
    placed = ap (map name) is.placed ∙ placed_map name is.before merge.sources is.behind;
    some = some_map name merge.sources is.some;
    within = is.within;
    shows = λ cell. is.shows cell ∙ ap (λ (ls : List Content). overlay ls cell) (sym (contents_named merge.sources));
  }

  pub named_keeps : (replaced : List ℕ) (core : Core) → Renames core (map name core.files) replaced → Standing core
      → Standing record core { files = map name core.files; merges = map (name_sources chosen tombs) core.merges; condemned = replaced ++ core.condemned; edit = None }
  named_keeps replaced core renames inv =
      let numbers = same_map source_numbers (name_sources chosen tombs) (λ merge. numbers_named merge.sources) core.merges in
      record {
        shows = λ cell.
            shown_is (map name core.files) core.snapshot core.cache cell
            ∙ ap (λ (ls : List Content). option_or (value_at core.cache cell) (option_or (overlay (snapshot_contents core.snapshot) cell) (overlay ls cell))) (contents_named core.files)
            ∙ sym (shown_is core.files core.snapshot core.cache cell)
            ∙ inv.shows cell;
        views = inv.views;
        merges = all_over_map (MergeStands core.files) (MergeStands (map name core.files)) (name_sources chosen tombs) (merge_named core.files) core.merges inv.merges;
        apart = subst AreDisjoint (sym numbers) inv.apart;
        parts =
            let parts = inv.parts in
            record {
              settled = parts.settled;
              first = parts.first;
              second = parts.second;
              joined = parts.joined;
              began = parts.began;
              floor = parts.floor;
              cache = parts.cache;
              snapshot = parts.snapshot;
              files = all_over_map (FileIsCut (parts.first ++ parts.second)) (FileIsCut (parts.first ++ parts.second)) name
                  (λ file. follows_either (parts.first ++ parts.second) (tombs file) (chosen file) file) core.files parts.files;
            };
        generations = subst (λ (ns : List ℕ). Climbs 0 ns (suc core.floor)) (sym (generations_named core.files)) inv.generations;
        holds = λ n. inv.holds n ∙ ap (λ (h : ℕ). held_by_views n core.views + h) (sym (held_same n (name_sources chosen tombs) (λ merge. numbers_named merge.sources) core.merges));
        present = λ n held.
            let was = inv.present n held in
            let a = ap (count n) (numbers_named core.files) in
            let b = count-append n replaced core.condemned in
            omega arith;
        once = λ n. let a = renames.unused n in let b = renames.moved n in let c = count-append n replaced core.condemned in omega arith;
        edit = tt;
        index = inv.index;
      }

pub record_keeps : (old new : Core) → RecordsFiles old new → Standing old → Standing new
record_keeps old new records inv = subst Standing (sym records.same) (named_keeps records.chosen records.tombs records.replaced old records.renames inv)

-- what an edit would make stands for the same points and number
same_history : (old would : Core) → would.start ≡ old.start → would.history ≡ old.history → Standing would → ImageStands old.start old.history (image_of would)
same_history old would start history inv =
    subst (λ (s : State). ImageStands s old.history (image_of would)) start (subst (λ (h : List Entry). ImageStands would.start h (image_of would)) history (image_stands would inv))

would_stand : (old would : Core) → WouldMake old would → Standing old → ImageStands old.start old.history (image_of would)
would_stand old would (inl ends) inv = same_history old would (ap (λ (c : Core). c.start) ends.same) (ap (λ (c : Core). c.history) ends.same) (end_snapshot_keeps old would ends inv)
would_stand old would (inr (inl ends)) inv = same_history old would (ap (λ (c : Core). c.start) ends.same) (ap (λ (c : Core). c.history) ends.same) (end_merge_keeps old would ends inv)
would_stand old would (inr (inr (inr same))) inv = subst (λ (c : Core). ImageStands old.start old.history (image_of c)) (sym same) (image_stands old inv)
would_stand old would (inr (inr (inl records))) inv = same_history old would (ap (λ (c : Core). c.start) records.same) (ap (λ (c : Core). c.history) records.same) (record_keeps old would records inv)

pub doubt_edit_keeps : (old new : Core) → DoubtsEdit old new → Standing old → Standing new
doubt_edit_keeps old new doubts inv = subst Standing (sym doubts.same) (edits_keeps old (Some (image_of doubts.would)) (would_stand old doubts.would doubts.made inv) inv)

stored_keeps : (core : Core) (stored : Key → Bool) (replaced : List ℕ) (edit : Option Image) → IfSome edit (ImageStands core.start core.history)
    → ((n : ℕ) → count n replaced + (count n (names_of core.files) + count n core.condemned) ≤ 1) → Standing core
    → Standing record core { stored = stored; condemned = replaced ++ core.condemned; edit = edit }
stored_keeps core stored replaced edit stands unused inv = record {
  shows = inv.shows;
  views = inv.views;
  merges = inv.merges;
  apart = inv.apart;
  parts =
      let parts = inv.parts in
      record {
        settled = parts.settled;
        first = parts.first;
        second = parts.second;
        joined = parts.joined;
        began = parts.began;
        floor = parts.floor;
        cache = parts.cache;
        snapshot = parts.snapshot;
        files = parts.files;
      };
  generations = inv.generations;
  holds = inv.holds;
  present = λ n held. let e = inv.present n held in let a = count-append n replaced core.condemned in omega arith;
  once = λ n. let e = unused n in let a = count-append n replaced core.condemned in omega arith;
  edit = stands;
  index = inv.index;
}

pub store_changes_keeps : (old new : Core) → StoresChanges old new → Standing old → Standing new
store_changes_keeps old new stores inv = subst Standing (sym stores.same) (stored_keeps old stores.stored [] old.edit inv.edit (λ n. let e = inv.once n in omega arith) inv)

pub store_index_keeps : (old new : Core) → StoresIndex old new → Standing old → Standing new
store_index_keeps old new stores inv = subst Standing (sym stores) (stored_keeps old old.index [] old.edit inv.edit (λ n. let e = inv.once n in omega arith) inv)

pub compact_index_keeps : (old new : Core) → CompactsIndex old new → Standing old → Standing new
compact_index_keeps old new compacts inv = subst Standing (sym compacts.same) (stored_keeps old old.index compacts.replaced None tt compacts.unused inv)

pub crash_keeps : (old new : Core) → CrashesAndOpens old new → Standing old → Standing new
crash_keeps old new crashes inv =
    let stands = images_stand old inv crashes.more crashes.image crashes.left in
    opens_keeps crashes.image new stands.directory crashes.opens
