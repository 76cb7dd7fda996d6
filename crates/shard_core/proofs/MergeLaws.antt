-- The end of a merge keeps the invariant.
use Rattle.std.proofs.Common.{◌≡◌, ◌≢◌, ⊎_elim, ℕ, suc, ◌+◌, ◌-◌, ◌≤◌, arith, true, List, [], ◌∷◌, ◌++◌, map, ◌∙◌, ap, ap₂, sym, refl, subst, Option, None}
use Rattle.std.specs.Option.{option_or}
use Rattle.std.specs.List.{AllByRecursion, flat_map}
use Rattle.std.proofs.lemmas.List.{map-append}
use Rattle.tsdb_types.specs.declared.point.Cell.{Cell}
use Rattle.tsdb_types.specs.declared.value.Value.{Value}
use Rattle.point_model.specs.declared.entry.Entry.{Entry}
use Rattle.point_model.specs.Points.{Points, value_at}
use Rattle.point_model.proofs.EffectLemmas.{overlay-append}
use Rattle.point_model.specs.Contents.{Content, overlay}
use Rattle.point_model.specs.Effects.{is_deleted_by}
use Rattle.shard_core.specs.Invariant.{MergeStands}
use Rattle.shard_core.specs.MergeEvents.{EndsMerge, IsFileOfMerge, newest_generation}
use Rattle.shard_core.specs.Numbers.{AreDisjoint, Climbs, ShareNone, count, held_by_merges, names_of}
use Rattle.shard_core.specs.Parts.{FileIsCut}
use Rattle.shard_core.specs.Files.{generation_of, now_of, file_number, source_numbers, tombs_of_file}
use Rattle.shard_core.specs.Shown.{snapshot_contents}
use Rattle.shard_core.specs.State.{Core, File, Merge}
use Rattle.shard_core.proofs.ListLemmas.{Without, all_append, all_left, all_right, apart_without, climbs_le, climbs_split, climbs_then, count-append, count_names, group_stays, held_without, names-append, newest_climbs, placed_map}
use Rattle.shard_core.proofs.PartLemmas.{shown_is}
use Rattle.shard_core.proofs.Standing.{Standing}

-- files among others give place to files that show the same
pub files_replaced : (before group made behind : List File) (cell : Cell) → overlay (map now_of made) cell ≡ overlay (map now_of group) cell
    → overlay (map now_of (before ++ (made ++ behind))) cell ≡ overlay (map now_of (before ++ (group ++ behind))) cell
files_replaced before group made behind cell same = shown made ∙ ap (λ (o : Option Value). option_or (option_or (overlay (map now_of behind) cell) o) (overlay (map now_of before) cell)) same ∙ sym (shown group)
  where
    shown : (files : List File) → overlay (map now_of (before ++ (files ++ behind))) cell
        ≡ option_or (option_or (overlay (map now_of behind) cell) (overlay (map now_of files) cell)) (overlay (map now_of before) cell)
    shown files =
        ap (λ (ls : List Content). overlay ls cell) (placed_map now_of before files behind)
        ∙ overlay-append (map now_of before) (map now_of files ++ map now_of behind) cell
        ∙ ap (λ (o : Option Value). option_or o (overlay (map now_of before) cell)) (overlay-append (map now_of files) (map now_of behind) cell)

-- what a deletion takes away of each file isn't in their overlay
pub overlay_hidden : (entries : List Entry) (files : List File) → AllByRecursion (FileIsCut entries) files → (cell : Cell) → is_deleted_by entries cell ≡ true → overlay (map now_of files) cell ≡ None
overlay_hidden entries [] follow cell e = refl
overlay_hidden entries (file ∷ files) follow cell e =
    ap₂ (λ (a b : Option Value). option_or a b) (overlay_hidden entries files follow.1 cell e) (let is = follow.0 in is.hidden cell e)

-- each of these files' groups stays, where a group apart from it gives place
groups_stay : (made before other behind files : List File) → files ≡ before ++ (other ++ behind) → other ≢ []
    → (merges : List Merge) → AllByRecursion (MergeStands files) merges
    → AllByRecursion (λ numbers. ShareNone numbers (map file_number other)) (map source_numbers merges)
    → AllByRecursion (MergeStands (before ++ (made ++ behind))) merges
groups_stay made before other behind files placed some [] stand apart = tt
groups_stay made before other behind files placed some (merge ∷ merges) stand apart =
    let is = stand.0 in
    let share = apart.0 in
    let stays = group_stays made is.before merge.sources is.behind before other behind (sym is.placed ∙ placed) share is.some some in (
      record { before = stays.before_it; behind = stays.behind_it; placed = stays.placed; some = is.some; within = is.within; shows = is.shows },
      groups_stay made before other behind files placed some merges stand.1 apart.1,
    )

module _ (core : Core) (inv : Standing core) (merge : Merge) (earlier others : List Merge) (listed : core.merges ≡ earlier ++ merge ∷ others)
    (before behind : List File) (placed : core.files ≡ before ++ (merge.sources ++ behind)) (made : List File) (is_made : IsFileOfMerge merge made)
    (unused : (n : ℕ) → count n (names_of made) + (count n (names_of core.files) + count n core.condemned) ≤ 1) where
  stand : AllByRecursion (MergeStands core.files) (earlier ++ merge ∷ others)
  stand = subst (λ (merges : List Merge). AllByRecursion (MergeStands core.files) merges) listed inv.merges

  abbrev own : MergeStands core.files merge
  own = let all = all_right (MergeStands core.files) earlier (merge ∷ others) stand in all.0

  -- what is made shows what the sources do
  output_shows : (cell : Cell) → overlay (map now_of made) cell ≡ overlay (map now_of merge.sources) cell
  output_shows cell =
      ⊎_elim (λ none. ap (λ (files : List File). overlay (map now_of files) cell) none.1
      ∙ sym (own.within cell (ap (λ (ps : Points). value_at ps cell) none.0)))
      (λ some. ap (λ (files : List File). overlay (map now_of files) cell) some.1.2) is_made
      ∙ own.shows cell

  end_shows : (cell : Cell) → option_or (value_at core.cache cell) (option_or (overlay (snapshot_contents core.snapshot) cell) (overlay (map now_of (before ++ (made ++ behind))) cell))
      ≡ option_or (value_at core.cache cell) (option_or (overlay (snapshot_contents core.snapshot) cell) (overlay (map now_of core.files) cell))
  end_shows cell =
      ap (λ (o : Option Value). option_or (value_at core.cache cell) (option_or (overlay (snapshot_contents core.snapshot) cell) o))
      (files_replaced before merge.sources made behind cell (output_shows cell) ∙ ap (λ (files : List File). overlay (map now_of files) cell) (sym placed))

  output_follows : (entries : List Entry) → AllByRecursion (FileIsCut entries) merge.sources → AllByRecursion (FileIsCut entries) made
  output_follows entries follow =
      ⊎_elim (λ none. subst (λ (files : List File). AllByRecursion (FileIsCut entries) files) (sym none.1) tt)
      (λ some. subst (λ (files : List File). AllByRecursion (FileIsCut entries) files) (sym some.1.2)
      (record { hidden = λ cell e. own.shows cell ∙ overlay_hidden entries merge.sources follow cell e; kept = λ cell e. refl }, tt)) is_made

  end_follows : (entries : List Entry) → AllByRecursion (FileIsCut entries) core.files → AllByRecursion (FileIsCut entries) (before ++ (made ++ behind))
  end_follows entries follow =
      let all = subst (λ (files : List File). AllByRecursion (FileIsCut entries) files) placed follow in
      let rest = all_right (FileIsCut entries) before (merge.sources ++ behind) all in
      all_append (FileIsCut entries) before (made ++ behind) (all_left (FileIsCut entries) before (merge.sources ++ behind) all)
      (all_append (FileIsCut entries) made behind (output_follows entries (all_left (FileIsCut entries) merge.sources behind rest)) (all_right (FileIsCut entries) merge.sources behind rest))

  newest : (files : List File) → files ≢ [] → (low high : ℕ) → Climbs low (map generation_of files) high → Climbs low (newest_generation files ∷ []) high
  newest [] some low high climbs = absurd (some refl)
  newest (file ∷ files) some low high climbs = newest_climbs low file files high climbs

  output_climbs : (low high : ℕ) → Climbs low (map generation_of merge.sources) high → Climbs low (map generation_of made) high
  output_climbs low high climbs =
      ⊎_elim (λ none. subst (λ (files : List File). Climbs low (map generation_of files) high) (sym none.1) (climbs_le low (map generation_of merge.sources) high climbs))
      (λ some. subst (λ (files : List File). Climbs low (map generation_of files) high) (sym some.1.2) (newest merge.sources own.some low high climbs)) is_made

  end_climbs : (high : ℕ) → Climbs 0 (map generation_of core.files) high → Climbs 0 (map generation_of (before ++ (made ++ behind))) high
  end_climbs high climbs =
      let all = subst (λ (files : List File). Climbs 0 (map generation_of files) high) placed climbs in
      let parts = subst (λ (ns : List ℕ). Climbs 0 ns high) (placed_map generation_of before merge.sources behind) all in
      let first = climbs_split 0 (map generation_of before) (map generation_of merge.sources ++ map generation_of behind) high parts in
      let second = climbs_split first.middle (map generation_of merge.sources) (map generation_of behind) high first.second in
      subst (λ (ns : List ℕ). Climbs 0 ns high) (sym (placed_map generation_of before made behind))
      (climbs_then 0 (map generation_of before) first.middle (map generation_of made ++ map generation_of behind) high first.first
      (climbs_then first.middle (map generation_of made) second.middle (map generation_of behind) high (output_climbs first.middle second.middle second.first) second.second))

  apart_now : Without (source_numbers merge) (map source_numbers earlier ++ map source_numbers others)
  apart_now = apart_without (map source_numbers earlier) (source_numbers merge) (map source_numbers others)
      (subst AreDisjoint (ap (map source_numbers) listed ∙ map-append source_numbers earlier (merge ∷ others)) inv.apart)

  pub merge_ended : Standing record core {
    files = before ++ (made ++ behind);
    merges = earlier ++ others;
    condemned = (source_numbers merge ++ flat_map tombs_of_file merge.sources) ++ core.condemned;
    holds = λ n. core.holds n - count n (source_numbers merge);
    edit = None;
  }
  merge_ended = record {
    shows = λ cell. shown_is (before ++ (made ++ behind)) core.snapshot core.cache cell ∙ end_shows cell ∙ sym (shown_is core.files core.snapshot core.cache cell) ∙ inv.shows cell;
    views = inv.views;
    merges =
        let all = stand in
        groups_stay made before merge.sources behind core.files placed own.some (earlier ++ others)
        (all_append (MergeStands core.files) earlier others (all_left (MergeStands core.files) earlier (merge ∷ others) all) (let right = all_right (MergeStands core.files) earlier (merge ∷ others) all in right.1))
        (subst (λ (numbers : List (List ℕ)). AllByRecursion (λ ns. ShareNone ns (source_numbers merge)) numbers) (sym (map-append source_numbers earlier others)) apart_now.from_it);
    apart = subst AreDisjoint (sym (map-append source_numbers earlier others)) apart_now.apart;
    parts =
        let parts = inv.parts in
        record {
          settled = parts.settled;
          first = parts.first;
          second = parts.second;
          joined = parts.joined;
          began = parts.began;
          floor = parts.floor;
          cache = parts.cache;
          snapshot = parts.snapshot;
          files = end_follows (parts.first ++ parts.second) parts.files;
        };
    generations = end_climbs (suc core.floor) inv.generations;
    holds = λ n.
        let was = inv.holds n in
        let merges = ap (held_by_merges n) listed ∙ held_without n earlier merge others in
        omega arith;
    present = λ n held.
        let was = inv.present n (let e = held in omega arith) in
        let files = ap (λ (fs : List File). count n (map file_number fs)) placed ∙ ap (count n) (placed_map file_number before merge.sources behind) in
        let now = ap (count n) (placed_map file_number before made behind) in
        let a = count-append n (map file_number before) (map file_number merge.sources ++ map file_number behind) in
        let b = count-append n (map file_number merge.sources) (map file_number behind) in
        let c = count-append n (map file_number before) (map file_number made ++ map file_number behind) in
        let d = count-append n (map file_number made) (map file_number behind) in
        let e = count-append n (source_numbers merge ++ flat_map tombs_of_file merge.sources) core.condemned in
        let f = count-append n (source_numbers merge) (flat_map tombs_of_file merge.sources) in
        omega arith;
    once = λ n.
        let u = unused n in
        let files = ap (λ (fs : List File). count n (names_of fs)) placed in
        let a = ap (count n) (names-append before (merge.sources ++ behind)) ∙ count-append n (names_of before) (names_of (merge.sources ++ behind)) in
        let b = ap (count n) (names-append merge.sources behind) ∙ count-append n (names_of merge.sources) (names_of behind) in
        let c = ap (count n) (names-append before (made ++ behind)) ∙ count-append n (names_of before) (names_of (made ++ behind)) in
        let d = ap (count n) (names-append made behind) ∙ count-append n (names_of made) (names_of behind) in
        let e = count-append n (source_numbers merge ++ flat_map tombs_of_file merge.sources) core.condemned in
        let f = count-append n (source_numbers merge) (flat_map tombs_of_file merge.sources) in
        let g = count_names n merge.sources in
        omega arith;
    edit = tt;
    index = inv.index;
  }

pub end_merge_keeps : (old new : Core) → EndsMerge old new → Standing old → Standing new
end_merge_keeps old new ends inv =
    subst Standing (sym ends.same) (merge_ended old inv ends.merge ends.earlier ends.others ends.listed ends.before ends.behind ends.placed ends.made ends.is_made ends.unused)
