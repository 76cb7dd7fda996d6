-- What do the beginning, the end and the giving up of a merge make of the state?
use Rattle.std.specs.Prelude.{◌≡◌, ◌≢◌, ◌⊎◌, ℕ, ◌+◌, ◌-◌, ◌≤◌, List, [], ◌∷◌, ◌++◌, map, Option, None}
use Rattle.std.specs.List.{AllByRecursion, flat_map}
use Rattle.tsdb_types.specs.declared.point.Cell.{Cell}
use Rattle.point_model.specs.Points.{no_points, value_at}
use Rattle.point_model.specs.Contents.{overlay}
use Rattle.shard_core.specs.Numbers.{ShareNone, count, times_named, names_of}
use Rattle.shard_core.specs.Files.{now_of, source_numbers, tombs_of_file}
use Rattle.shard_core.specs.State.{Core, File, Merge}

-- Files that stand one behind the other, of which none is a source of another merge; the output is what they show.
pub record MayMerge (core : Core) (merge : Merge) : Type 0 where
  pub before : List File
  pub behind : List File
  pub placed : core.files ≡ before ++ (merge.sources ++ behind)
  pub some : merge.sources ≢ []
  pub idle : AllByRecursion (ShareNone (source_numbers merge)) (map source_numbers core.merges)
  pub output : (cell : Cell) → value_at merge.output cell ≡ overlay (map now_of merge.sources) cell
  pub now : (cell : Cell) → merge.now cell ≡ value_at merge.output cell

-- each source has a hold more
abbrev pub with_merge : Merge → Core → Core
with_merge merge core = record core { merges = merge ∷ core.merges; holds = λ n. core.holds n + count n (source_numbers merge) }

-- such files are merged, and each of them gets a hold
pub record BeginsMerge (old new : Core) : Type 0 where
  pub merge : Merge
  pub may : MayMerge old merge
  pub same : new ≡ with_merge merge old

-- the generation of the newest of the files
abbrev pub newest_generation : List File → ℕ
newest_generation [] = 0
newest_generation (file ∷ []) = file.stored.generation
newest_generation (file ∷ other ∷ files) = newest_generation (other ∷ files)

-- the file of a merge: its output, with the tombstones since its beginning on the disk
abbrev pub file_of_merge : Merge → ℕ → Option ℕ → File
file_of_merge merge number tomb = record {
  stored = record { no = number; generation = newest_generation merge.sources; tomb = tomb; content = merge.now };
  now = merge.now;
}

-- what a merge becomes: a file where its output has a point, else none
abbrev pub IsFileOfMerge : Merge → List File → Type 0
IsFileOfMerge merge made =
    ((merge.output ≡ no_points) × (made ≡ []))
    ⊎ ((merge.output ≢ no_points) × ((no : ℕ) × (tomb : Option ℕ) × (made ≡ file_of_merge merge no tomb ∷ [])))

-- The sources give place to the output, or to nothing. They and their tombstone files are condemned, and lose the merge's holds.
pub record EndsMerge (old new : Core) : Type 0 where
  pub merge : Merge
  pub earlier : List Merge
  pub others : List Merge
  pub listed : old.merges ≡ earlier ++ merge ∷ others
  pub before : List File
  pub behind : List File
  pub placed : old.files ≡ before ++ (merge.sources ++ behind)
  pub made : List File
  pub is_made : IsFileOfMerge merge made
  pub unused : (n : ℕ) → count n (names_of made) + times_named old n ≤ 1
  pub same : new ≡ record old {
    files = before ++ (made ++ behind);
    merges = earlier ++ others;
    condemned = (source_numbers merge ++ flat_map tombs_of_file merge.sources) ++ old.condemned;
    holds = λ n. old.holds n - count n (source_numbers merge);
    edit = None;
  }

-- The merge goes with its holds; what its job adopted is condemned.
pub record AbandonsMerge (old new : Core) : Type 0 where
  pub merge : Merge
  pub earlier : List Merge
  pub others : List Merge
  pub listed : old.merges ≡ earlier ++ merge ∷ others
  pub adopted : List ℕ
  pub unused : (n : ℕ) → count n adopted + times_named old n ≤ 1
  pub same : new ≡ record old {
    merges = earlier ++ others;
    condemned = adopted ++ old.condemned;
    holds = λ n. old.holds n - count n (source_numbers merge);
  }
