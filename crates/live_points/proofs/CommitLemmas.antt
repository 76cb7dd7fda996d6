-- What holds beside a cache once a batch is learned, and once it is set.
use Rattle.std.proofs.Common.{◌≡◌, ◌∙◌, ap, sym, subst, ⊎_elim, true, ℕ, length, ℤ, All, List, Option, Some, None, IsSome, is_some, option_and_then, slice_get}
use Rattle.std.specs.Ordering.{int_eq}
use Rattle.std.proofs.lemmas.Bool.{false≢true}
use Rattle.std.proofs.lemmas.Option.{slice_get_within, get_or_from_slice_get}
use Rattle.tsdb_types.specs.Columns.{column_of, columns_of}
use Rattle.tsdb_types.specs.Keys.{IsFirstMark}
use Rattle.tsdb_types.specs.declared.column.Column.{Column}
use Rattle.tsdb_types.specs.declared.point.Point.{Point}
use Rattle.tsdb_types.specs.declared.value.Value.{Value}
use Rattle.point_model.specs.Acceptance.{IsAccepted, IsCell, IsKeyed, IsStored, IsWritable}
use Rattle.point_model.specs.Cursors.{Key}
use Rattle.point_model.specs.Histories.{with_points}
use Rattle.point_model.specs.Measurements.{measurement_head}
use Rattle.point_model.proofs.FieldLemmas.{and_first}
use Rattle.point_model.proofs.StoredLemmas.{stored-with}
use Rattle.point_cache.specs.declared.key_points.KeyRun.{KeyRun}
use Rattle.point_cache.specs.Cached as cached
use Rattle.point_cache.specs.Cached.{AreRuns, value_after}
use Rattle.point_cache.proofs.EntryLemmas.{same_key}
use Rattle.live_points.specs.Held.{composite, cut, kind_at, points_of}
use Rattle.live_points.specs.Known.{Holds, IsKnown, Keys, Samples, kind_in, sample_of}
use Rattle.live_points.specs.Learned.{IsAmong, IsLearned, IsSampled, Learns, Resamples, key_of_column}
use Rattle.live_points.proofs.ColumnLemmas.{all_places, in_columns, of_columns}
use Rattle.live_points.proofs.CutLemmas.{cut_composite}
use Rattle.live_points.proofs.KnownLemmas.{cuts, some_kind_value, value_kind}
use Rattle.live_points.proofs.SetLemmas.{IsCutPoint, after_some, all_cut, point_key, points_set, set_after, some_after}

-- the columns of a batch that may be written have keys that are cut where they were joined
columns_marked : (batch : List Point) → IsWritable batch → (column : Column) → IsAmong (columns_of batch) column → IsFirstMark (composite (key_of_column column)) (length column.series)
columns_marked batch writable column among =
    let of = of_columns batch among.0 column among.1 in
    let keyed : IsKeyed of.1 =
    subst IsKeyed (get_or_from_slice_get batch of.0 of.1 of.1 of.2) (writable.keyed of.0 of.1 (slice_get_within batch of.0 of.1 of.2)) in
    subst (λ (c : Column). IsFirstMark (composite (key_of_column c)) (length c.series)) of.3 keyed.marked

pub marked_columns : (batch : List Point) → IsWritable batch → (columns : List Column) → columns ≡ columns_of batch
    → (column : Column) → IsAmong columns column → IsFirstMark (composite (key_of_column column)) (length column.series)
marked_columns batch writable columns are column among =
    columns_marked batch writable column (subst (λ (cs : List Column). IsAmong cs column) are among)

-- all is known of a batch whose columns are learned
pub is_learned : (runs : List KeyRun) (keys : Keys) (samples : Samples) (batch : List Point) (columns : List Column) (points : List Point)
    → IsWritable batch → columns ≡ columns_of batch → points ≡ batch → All (λ (p : Point). IsCell p.cell) points
    → ((column : Column) → IsAmong columns column → IsKnown keys (key_of_column column))
    → ((column : Column) → IsAmong columns column → IsSampled runs columns samples column)
    → IsLearned runs keys samples batch
is_learned runs keys samples batch columns points writable are same cells known sampled = record {
  writable = writable;
  cells = subst (λ (ps : List Point). All (λ (p : Point). IsCell p.cell) ps) same cells;
  known = subst (λ (cs : List Column). (column : Column) → IsAmong cs column → IsKnown keys (key_of_column column)) are known;
  sampled = subst (λ (cs : List Column). (column : Column) → IsAmong cs column → IsSampled runs cs samples column) are sampled;
}

module _ (runs : List KeyRun) (keys : Keys) (samples : Samples) (columns : List Column) (holds : Holds runs keys samples)
    (marked : (column : Column) → IsAmong columns column → IsFirstMark (composite (key_of_column column)) (length column.series)) where
  -- what is made known for columns changes no point
  pub learned : (more : Keys) (taken : Samples) → Learns columns keys more → Resamples runs columns more samples taken → Holds runs more taken
  learned more taken learns resamples =
      let all_marked : (key : Key) → IsKnown more key → IsFirstMark (composite key) (length key.0) = λ key known.
      ⊎_elim
      (λ before. holds.marked key before)
      (λ new. subst (λ (k : Key). IsFirstMark (composite k) (length k.0)) new.2 (marked new.0 new.1))
      (learns.added key known) in
      record {
        are_runs = holds.are_runs;
        stored = holds.stored;
        known = λ bytes time some. let before = holds.known bytes time some in (learns.kept (cut bytes) before.0, before.1);
        marked = all_marked;
        placed = λ measurement field series is.
            ⊎_elim
            (λ same. let before = holds.placed measurement field series (sym same ∙ is) in (before.0, learns.kept (series, field) before.1))
            (λ new.
            let at : new.1.series ≡ series = some_same (sample_of taken measurement field) new.1.series series new.3 is in (
              ap measurement_head (sym at) ∙ new.4,
              subst (λ (s : List ℕ). IsKnown more (s, field)) at (subst (λ (f : List ℕ). IsKnown more (new.1.series, f)) new.5 new.6),
            ))
            (resamples measurement field);
        sampled = λ key known some.
            let value = some_kind_value runs key some in
            let before : IsKnown keys key = subst (λ (k : Key). IsKnown keys k) (cut_composite key (all_marked key known)) (holds.known (composite key) value.0 value.1).0 in
            let had = holds.sampled key before some in
            ⊎_elim
            (λ (same : sample_of taken (measurement_head key.0) key.1 ≡ sample_of samples (measurement_head key.0) key.1).
            subst (λ (o : Option (List ℕ)). IsSome (option_and_then (λ series. kind_at runs (series, key.1)) o)) (sym same) had)
            (λ new. absurd (false≢true (sym (ap is_some new.0) ∙ had)))
            (resamples (measurement_head key.0) key.1);
      }
    where
      some_same : {X : Type 0} (o : Option X) (a b : X) → o ≡ Some a → o ≡ Some b → a ≡ b
      some_same o a b e f = cc

-- The batch is set.
module _ (old new : List KeyRun) (keys : Keys) (samples : Samples) (batch : List Point) (holds : Holds old keys samples) (learned : IsLearned old keys samples batch)
    (accepted : IsAccepted (points_of old) batch) (are_runs : AreRuns new)
    (sets : (bytes : List ℕ) (time : ℤ) → cached.value_at new bytes time ≡ value_after batch bytes time (cached.value_at old bytes time)) where
  known_point : (place : ℕ) (point : Point) → slice_get batch place ≡ Some point → IsKnown keys (point_key point)
  known_point place point at = learned.known (column_of point) (in_columns batch place point at)

  cut_point : (place : ℕ) (point : Point) → slice_get batch place ≡ Some point → IsCutPoint point
  cut_point place point at = cut_composite (point_key point) (holds.marked (point_key point) (known_point place point at))

  -- a point of the batch is at its own key
  at_key : (bytes : List ℕ) (time : ℤ) (point : Point) → cached.is_at bytes time point ≡ true → bytes ≡ composite (point_key point)
  at_key bytes time point e = same_key bytes (composite (point_key point)) (and_first _ (int_eq time point.cell.time) e)

  still_known : (bytes : List ℕ) (time : ℤ) → IsSome (cached.value_at new bytes time) → IsKnown keys (cut bytes) × (composite (cut bytes) ≡ bytes)
  still_known bytes time some =
      ⊎_elim
      (λ before. holds.known bytes time before)
      (λ set.
      let own = cut_point set.0 set.1 set.2 in
      let is : bytes ≡ composite (point_key set.1) = at_key bytes time set.1 set.3 in
      let keys_are : cut bytes ≡ point_key set.1 = ap cut is ∙ own in
      (subst (λ (k : Key). IsKnown keys k) (sym keys_are) (known_point set.0 set.1 set.2), ap composite keys_are ∙ sym is))
      (after_some batch bytes time (cached.value_at old bytes time) (subst (λ (o : Option Value). IsSome o) (sets bytes time) some))

  -- the points are those before with the batch
  pub points_are : points_of new ≡ with_points (points_of old) batch
  points_are =
      points_set old new batch (cuts old keys samples holds) holds.are_runs.apart
      (all_cut new are_runs.each (λ bytes time some. (still_known bytes time some).1)) are_runs.apart
      (all_places IsCutPoint batch cut_point) sets

  -- a key that had points has some
  still : (key : Key) → IsSome (kind_at old key) → IsSome (kind_at new key)
  still key some =
      let value = some_kind_value old key some in
      value_kind new key value.0
      (subst (λ (o : Option Value). IsSome o) (sym (sets (composite key) value.0)) (some_after batch (composite key) value.0 (cached.value_at old (composite key) value.0) value.1))

  -- the key of each point of the batch has some
  set_kind : (place : ℕ) (point : Point) → slice_get batch place ≡ Some point → IsSome (kind_at new (point_key point))
  set_kind place point at =
      value_kind new (point_key point) point.cell.time
      (subst (λ (o : Option Value). IsSome o) (sym (sets (composite (point_key point)) point.cell.time))
      (set_after batch place point at (cached.value_at old (composite (point_key point)) point.cell.time)))

  field_still : (measurement field : List ℕ) → IsSome (kind_in old samples measurement field) → IsSome (kind_in new samples measurement field)
  field_still measurement field some = by (sample_of samples measurement field) some
    where
      by : (o : Option (List ℕ)) → IsSome (option_and_then (λ (series : List ℕ). kind_at old (series, field)) o) → IsSome (option_and_then (λ (series : List ℕ). kind_at new (series, field)) o)
      by None i = i
      by (Some series) i = still (series, field) i

  -- the field of each point of the batch has a sample with points
  point_sampled : (place : ℕ) (point : Point) → slice_get batch place ≡ Some point → IsSome (kind_in new samples (measurement_head point.cell.series) point.cell.field)
  point_sampled place point at =
      ⊎_elim
      (λ some. field_still (measurement_head point.cell.series) point.cell.field some)
      (λ other.
      let of = of_columns batch other.1.0 other.0 other.1.1 in
      let own : IsSome (kind_at new (key_of_column other.0)) = subst (λ (c : Column). IsSome (kind_at new (key_of_column c))) of.3 (set_kind of.0 of.1 of.2) in
      subst (λ (o : Option (List ℕ)). IsSome (option_and_then (λ (series : List ℕ). kind_at new (series, point.cell.field)) o)) (sym other.2)
      (subst (λ (f : List ℕ). IsSome (kind_at new (other.0.series, f))) other.3 own))
      (learned.sampled (column_of point) (in_columns batch place point at))

  all_cells : All (λ (p : Point). IsCell p.cell) batch
  all_cells = learned.cells

  pub committed : Holds new keys samples
  committed = record {
    are_runs = are_runs;
    stored = subst IsStored (sym points_are) (stored-with (points_of old) holds.stored batch accepted learned.writable.one_kind all_cells);
    known = still_known;
    marked = holds.marked;
    placed = holds.placed;
    sampled = λ key known some.
        let value = some_kind_value new key some in
        ⊎_elim
        (λ before. field_still (measurement_head key.0) key.1 (holds.sampled key known (value_kind old key value.0 before)))
        (λ set.
        let is : key ≡ point_key set.1 =
        sym (cut_composite key (holds.marked key known)) ∙ ap cut (at_key (composite key) value.0 set.1 set.3) ∙ cut_point set.0 set.1 set.2 in
        subst (λ (k : Key). IsSome (kind_in new samples (measurement_head k.0) k.1)) (sym is) (point_sampled set.0 set.1 set.2))
        (after_some batch (composite key) value.0 (cached.value_at old (composite key) value.0) (subst (λ (o : Option Value). IsSome o) (sets (composite key) value.0) value.1));
  }
