-- An accepted write or deletion keeps the invariant.
use Rattle.std.proofs.Common.{◌≡◌, ◌≢◌, ◌⊎◌, ◌↔◌, ⊎_elim, inl, inr, Ordering, Less, Equal, Greater, is_eq, ℤ, ℕ, ◌+◌, ◌<◌, ◌≤◌, suc, Bool, true, false, cond, List, [], ◌∷◌, ◌++◌, map, ◌∙◌, ap, ap₂, sym, refl, subst, Option, Some, None, append_assoc}
use Rattle.std.specs.Prelude.{option_map}
use Rattle.std.specs.Option.{option_or}
use Rattle.std.specs.Prelude.{IsSome}
use Rattle.tsdb_types.specs.declared.point.Cell.{Cell}
use Rattle.tsdb_types.specs.declared.point.Point.{Point}
use Rattle.tsdb_types.specs.declared.value.Value.{Value}
use Rattle.point_model.specs.declared.deletion.Deletion.{Deletion}
use Rattle.point_model.specs.declared.entry.Entry.{Entry}
use Rattle.point_model.specs.declared.entry.Entry.TheVariants.{Write, Delete}
use Rattle.point_model.specs.Deletions.{is_deleted, without}
use Rattle.point_model.specs.Histories.{after, with_points}
use Rattle.point_model.specs.Cursors.{Key, cell_at}
use Rattle.point_model.specs.Points.{cell_cmp, is_same_cell, value_at}
use Rattle.point_model.proofs.PointLemmas.{cell_exact, cell_total}
use Rattle.std.specs.Cmp.{eq_by_cmp_equiv}
use Rattle.point_model.proofs.EffectLemmas.{IsSet, deleted_value, set_shows, spared_or, value_after_entry, value_after_write, value_without, written_sets}
use Rattle.point_model.specs.Contents.{overlay}
use Rattle.point_model.specs.Cursors.{HasKey}
use Rattle.point_model.specs.Effects.{Effect, applied, effect, is_deleted_by, set_by, written}
use Rattle.shard_core.specs.Contents.{held}
use Rattle.shard_core.specs.EntryEvents.{Deletes, HasOfKey, Writes, cut_file, cut_merge, cut_snapshot, key_of_point, with_delete, with_write}
use Rattle.shard_core.specs.Invariant.{IsIndex, MergeStands, ShowsHistory, ViewShows}
use Rattle.shard_core.specs.Numbers.{AreDisjoint, Climbs, count, held_by_views}
use Rattle.shard_core.specs.Parts.{FileIsCut, StandsInParts}
use Rattle.shard_core.specs.Files.{generation_of, now_of, file_number, source_numbers}
use Rattle.shard_core.specs.Shown.{contents_of, snapshot_contents}
use Rattle.shard_core.specs.State.{Core, Merge, points_now}
use Rattle.shard_core.proofs.ListLemmas.{all_over, all_over_map, held_same, names_same, same_map}
use Rattle.shard_core.proofs.Standing.{Standing}
use Rattle.shard_core.proofs.PartLemmas

-- a point that is set has its value
set_touches : (e : Effect) (was : Option Value) → IsSet e → applied e was ≢ None → (was ≢ None) ⊎ (e ≢ None)
set_touches None was s some = inl some
set_touches (Some None) was s some = absurd s
set_touches (Some (Some value)) was s some = inr (λ e. cc)

touches_set : (e : Effect) (was : Option Value) → IsSet e → (was ≢ None) ⊎ (e ≢ None) → applied e was ≢ None
touches_set None was s (inl some) = some
touches_set None was s (inr some) = absurd (some refl)
touches_set (Some None) was s some = absurd s
touches_set (Some (Some value)) was s some = λ e. cc

is_equal : (o : Ordering) → is_eq o ≡ true → o ≡ Equal
is_equal Less e = absurd (cc)
is_equal Equal e = refl
is_equal Greater e = absurd (cc)

pub cell_same : (a b : Cell) → is_same_cell a b ≡ true → a ≡ b
cell_same a b e = cell_exact a b (is_equal (cell_cmp a b) e)

pub same_cell : (a : Cell) → is_same_cell a a ≡ true
same_cell a = let laws = eq_by_cmp_equiv cell_total in laws.refl a

-- a value that is there
some_there : (o : Option Value) → IsSome o → o ≢ None
some_there None some = absurd (cc)
some_there (Some value) some = λ e. cc

there_some : (o : Option Value) → o ≢ None → IsSome o
there_some None there = absurd (there refl)
there_some (Some value) there = refl

-- the points set a cell of the key exactly where one of them is of it
or_left : (o w : Effect) → o ≢ None → option_or o w ≢ None
or_left None w some = absurd (some refl)
or_left (Some x) w some = some

or_right : (o : Effect) (b : Bool) (value : Value) → b ≡ true → option_or o (cond b (Some (Some value)) None) ≢ None
or_right (Some x) b value e = λ f. cc
or_right None true value e = λ f. cc
or_right None false value e = absurd (cc)

written_there : (key : Key) (points : List Point) → HasOfKey key points → (time : ℤ) × (written points (cell_at key time) ≢ None)
written_there key [] any = absurd any
written_there key (point ∷ points) (inl is) = (
  point.cell.time,
  or_right (written points (cell_at key point.cell.time)) (is_same_cell point.cell (cell_at key point.cell.time)) point.value
      (ap (λ (k : Key). is_same_cell point.cell (cell_at k point.cell.time)) (sym is) ∙ same_cell point.cell),
)
written_there key (point ∷ points) (inr any) =
    let rest = written_there key points any in
    (rest.0, or_left (written points (cell_at key rest.0)) (set_by point (cell_at key rest.0)) rest.1)

there_written : (key : Key) (time : ℤ) (points : List Point) → written points (cell_at key time) ≢ None → HasOfKey key points
there_written key time [] some = absurd (some refl)
there_written key time (point ∷ points) some =
    by (written points (cell_at key time)) (is_same_cell point.cell (cell_at key time)) (there_written key time points) refl refl some
  where
    by : (o : Effect) (b : Bool) → (written points (cell_at key time) ≢ None → HasOfKey key points) → written points (cell_at key time) ≡ o → is_same_cell point.cell (cell_at key time) ≡ b
        → option_or o (cond b (Some (Some point.value)) None) ≢ None → (key_of_point point ≡ key) ⊎ HasOfKey key points
    by (Some x) b rest is same some = inr (rest (λ none. let e = sym is ∙ none in absurd (cc)))
    by None true rest is same some = inl (ap (λ (c : Cell). (c.series, c.field)) (cell_same point.cell (cell_at key time) same))
    by None false rest is same some = absurd (some refl)

module _ (client : ℕ) (points : List Point) (index : Key → Bool) (core : Core) (inv : Standing core)
    (added : (key : Key) → (index key ≡ true) ↔ ((core.index key ≡ true) ⊎ HasOfKey key points)) where
  abbrev write : Entry
  write = Write client points

  write_shows : ShowsHistory (with_write client points index core)
  write_shows cell =
      let older : Option Value = option_or (overlay (snapshot_contents core.snapshot) cell) (overlay (map now_of core.files) cell) in
      PartLemmas.shown_is core.files core.snapshot (with_points core.cache points) cell
      ∙ ap (λ (o : Option Value). option_or o older) (value_after_write core.cache points cell)
      ∙ set_shows (written points cell) (written_sets points cell) (value_at core.cache cell) older
      ∙ ap (λ (o : Option Value). applied (written points cell) o) (sym (PartLemmas.shown_is core.files core.snapshot core.cache cell) ∙ inv.shows cell)
      ∙ sym (PartLemmas.value_more core.start.points core.history write cell)

  write_parts : StandsInParts (with_write client points index core)
  write_parts =
      let parts = inv.parts in
      record {
        settled = parts.settled;
        first = parts.first;
        second = parts.second ++ write ∷ [];
        joined = PartLemmas.joined_more core.past core.history parts.settled parts.first parts.second (write ∷ []) parts.joined;
        began = parts.began;
        floor = parts.floor;
        cache = λ cell. value_after_entry core.cache write cell ∙ ap (λ (o : Option Value). applied (effect write cell) o) (parts.cache cell) ∙ sym (PartLemmas.effects_more parts.second write cell None);
        snapshot = PartLemmas.snapshot_write core.floor parts.first parts.second client points core.snapshot parts.snapshot;
        files = all_over (FileIsCut (parts.first ++ parts.second)) (FileIsCut (parts.first ++ (parts.second ++ write ∷ [])))
            (λ file is. PartLemmas.follows_same (is_deleted_by (parts.first ++ parts.second)) (is_deleted_by (parts.first ++ (parts.second ++ write ∷ []))) file.stored.content file.now
            (λ cell. ap (λ (es : List Entry). is_deleted_by es cell) (sym (append_assoc parts.first parts.second (write ∷ []))) ∙ PartLemmas.deleted_more_write (parts.first ++ parts.second) client points cell) is)
            core.files parts.files;
      }

  write_index : IsIndex (after core.start.points (core.history ++ write ∷ [])) index
  write_index key = (
    λ is. ⊎_elim
        (λ old. let has = (let was = inv.index key in was.0 old) in now_there has.0 (inl (some_there (value_at (points_now core) (cell_at key has.0)) has.1)))
        (λ new. let has = written_there key points new in now_there has.0 (inr has.1))
        (let a = added key in a.0 is),
    λ has. let a = added key in a.1 (⊎_elim
        (λ old. inl (let was = inv.index key in was.1 (has.0, there_some (value_at (points_now core) (cell_at key has.0)) old)))
        (λ new. inr (there_written key has.0 points new))
        (set_touches (written points (cell_at key has.0)) (value_at (points_now core) (cell_at key has.0)) (written_sets points (cell_at key has.0))
        (λ none. some_there (value_at (after core.start.points (core.history ++ write ∷ [])) (cell_at key has.0)) has.1 (PartLemmas.value_more core.start.points core.history write (cell_at key has.0) ∙ none)))),
  )
    where
      now_there : (time : ℤ) → (value_at (points_now core) (cell_at key time) ≢ None) ⊎ (written points (cell_at key time) ≢ None) → HasKey (held (after core.start.points (core.history ++ write ∷ []))) key
      now_there time some = (
        time,
        there_some (value_at (after core.start.points (core.history ++ write ∷ [])) (cell_at key time))
            (λ none. touches_set (written points (cell_at key time)) (value_at (points_now core) (cell_at key time)) (written_sets points (cell_at key time)) some
            (sym (PartLemmas.value_more core.start.points core.history write (cell_at key time)) ∙ none)),
      )

  pub write_keeps : Standing (with_write client points index core)
  write_keeps = record {
    shows = write_shows;
    views = all_over (ViewShows core.start core.history) (ViewShows core.start (core.history ++ write ∷ [])) (PartLemmas.view_more core.start core.history (write ∷ [])) core.views inv.views;
    merges = inv.merges;
    apart = inv.apart;
    parts = write_parts;
    generations = inv.generations;
    holds = inv.holds;
    present = inv.present;
    once = inv.once;
    edit = PartLemmas.edit_more core.start core.history write core.edit inv.edit;
    index = write_index;
  }

module _ (client : ℕ) (deletion : Deletion) (index : Key → Bool) (core : Core) (inv : Standing core)
    (left : (key : Key) → (index key ≡ true) ↔ ((core.index key ≡ true) × HasKey (overlay (contents_of (with_delete client deletion index core))) key)) where
  abbrev delete : Entry
  delete = Delete client deletion

  delete_shows : ShowsHistory (with_delete client deletion index core)
  delete_shows cell =
      let deleted : Bool = is_deleted deletion cell in
      let c : Option Value = value_at core.cache cell in
      let s : Option Value = overlay (snapshot_contents core.snapshot) cell in
      let f : Option Value = overlay (map now_of core.files) cell in
      PartLemmas.shown_is (map (cut_file deletion) core.files) (option_map (cut_snapshot deletion) core.snapshot) (without core.cache deletion) cell
      ∙ ap₂ (λ (a b : Option Value). option_or a b) (value_without core.cache deletion cell)
      (ap₂ (λ (a b : Option Value). option_or a b) (PartLemmas.snapshot_cut deletion core.snapshot cell) (PartLemmas.files_cut deletion core.files cell) ∙ spared_or deleted s f)
      ∙ spared_or deleted c (option_or s f)
      ∙ ap (λ (o : Option Value). cond deleted None o) (sym (PartLemmas.shown_is core.files core.snapshot core.cache cell) ∙ inv.shows cell)
      ∙ deleted_value deleted (value_at (after core.start.points core.history) cell)
      ∙ sym (PartLemmas.value_more core.start.points core.history delete cell)

  delete_parts : StandsInParts (with_delete client deletion index core)
  delete_parts =
      let parts = inv.parts in
      record {
        settled = parts.settled;
        first = parts.first;
        second = parts.second ++ delete ∷ [];
        joined = PartLemmas.joined_more core.past core.history parts.settled parts.first parts.second (delete ∷ []) parts.joined;
        began = parts.began;
        floor = parts.floor;
        cache = λ cell. value_after_entry core.cache delete cell ∙ ap (λ (o : Option Value). applied (effect delete cell) o) (parts.cache cell) ∙ sym (PartLemmas.effects_more parts.second delete cell None);
        snapshot = PartLemmas.snapshot_delete core.floor parts.first parts.second client deletion core.snapshot parts.snapshot;
        files = all_over_map (FileIsCut (parts.first ++ parts.second)) (FileIsCut (parts.first ++ (parts.second ++ delete ∷ []))) (cut_file deletion)
            (λ file is. PartLemmas.follows_cut (is_deleted_by (parts.first ++ parts.second)) (is_deleted_by (parts.first ++ (parts.second ++ delete ∷ []))) file.stored.content file.now deletion
            (λ cell. ap (λ (es : List Entry). is_deleted_by es cell) (sym (append_assoc parts.first parts.second (delete ∷ []))) ∙ PartLemmas.deleted_more_delete (parts.first ++ parts.second) client deletion cell) is)
            core.files parts.files;
      }

  numbers_cut : (merge : Merge) → source_numbers (cut_merge deletion merge) ≡ source_numbers merge
  numbers_cut merge = same_map file_number (cut_file deletion) (λ file. refl) merge.sources

  delete_index : IsIndex (after core.start.points (core.history ++ delete ∷ [])) index
  delete_index key = (
    λ is. let has = (let l = left key in l.0 is).1 in (has.0, subst IsSome (delete_shows (cell_at key has.0)) has.1),
    λ has. let l = left key in l.1 (
      let was = inv.index key in was.1 (
        has.0,
        there_some (value_at (points_now core) (cell_at key has.0)) (λ none. some_there (value_at (after core.start.points (core.history ++ delete ∷ [])) (cell_at key has.0)) has.1
            (PartLemmas.value_more core.start.points core.history delete (cell_at key has.0) ∙ sym (deleted_value (is_deleted deletion (cell_at key has.0)) (value_at (points_now core) (cell_at key has.0)))
            ∙ gone (is_deleted deletion (cell_at key has.0)) (value_at (points_now core) (cell_at key has.0)) none)),
      ),
      (has.0, subst IsSome (sym (delete_shows (cell_at key has.0))) has.1),
    ),
  )
    where
      gone : (b : Bool) (o : Option Value) → o ≡ None → cond b None o ≡ None
      gone true o e = refl
      gone false o e = e

  pub delete_keeps : Standing (with_delete client deletion index core)
  delete_keeps = record {
    shows = delete_shows;
    views = all_over (ViewShows core.start core.history) (ViewShows core.start (core.history ++ delete ∷ [])) (PartLemmas.view_more core.start core.history (delete ∷ [])) core.views inv.views;
    merges = all_over_map (MergeStands core.files) (MergeStands (map (cut_file deletion) core.files)) (cut_merge deletion) (PartLemmas.merge_cut deletion core.files) core.merges inv.merges;
    apart = subst AreDisjoint (sym (same_map source_numbers (cut_merge deletion) numbers_cut core.merges)) inv.apart;
    parts = delete_parts;
    generations = subst (λ (ns : List ℕ). Climbs 0 ns (suc core.floor)) (sym (same_map generation_of (cut_file deletion) (λ file. refl) core.files)) inv.generations;
    holds = λ n. inv.holds n ∙ ap (λ (h : ℕ). held_by_views n core.views + h) (sym (held_same n (cut_merge deletion) numbers_cut core.merges));
    present = λ n held. subst (λ (ns : List ℕ). 0 < count n ns + count n core.condemned) (sym (same_map file_number (cut_file deletion) (λ file. refl) core.files)) (inv.present n held);
    once = λ n. subst (λ (ns : List ℕ). count n ns + count n core.condemned ≤ 1) (sym (names_same (cut_file deletion) (λ file. refl) (λ file. refl) core.files)) (inv.once n);
    edit = PartLemmas.edit_more core.start core.history delete core.edit inv.edit;
    index = delete_index;
  }

pub writes_keeps : (old new : Core) → Writes old new → Standing old → Standing new
writes_keeps old new writes inv = subst Standing (sym writes.same) (write_keeps writes.client writes.points writes.index old inv writes.added)

pub deletes_keeps : (old new : Core) → Deletes old new → Standing old → Standing new
deletes_keeps old new deletes inv = subst Standing (sym deletes.same) (delete_keeps deletes.client deletes.deletion deletes.index old inv deletes.left)
