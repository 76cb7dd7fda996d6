-- That the ends of snapshots and merges can come.
use Rattle.std.proofs.Common.{◌≡◌, inl, inr, ℕ, ◌+◌, ◌≤◌, arith, Bool, true, false, cond, ◌==◌, List, [], ◌∷◌, ◌++◌, map, ◌∙◌, ap, sym, refl, subst, Some, None}
use Rattle.std.specs.List.{AllByRecursion}
use Rattle.std.proofs.lemmas.Bool.{eqb-true}
use Rattle.point_model.specs.Cursors.{Key}
use Rattle.point_model.specs.Points.{Points, no_points}
use Rattle.shard_core.specs.Crashes.{OpensDirectory, opened}
use Rattle.shard_core.specs.Invariant.{MergeStands}
use Rattle.shard_core.specs.MergeEvents.{EndsMerge, IsFileOfMerge, file_of_merge}
use Rattle.shard_core.specs.Numbers.{count, times_named, names_of}
use Rattle.shard_core.specs.SnapshotEvents.{EndsSnapshot, IsFileOf, snapshot_file, name_all, without_snapshot}
use Rattle.shard_core.specs.State.{Core, File, Merge, Snapshot, empty_image}
use Rattle.shard_core.specs.Taken.{IsReadableImage}
use Rattle.shard_core.proofs.ListLemmas.{all_right, count-append, names-append, names_same}
use Rattle.shard_core.proofs.Standing.{Standing}

-- nothing names the number
abbrev IsUnused : Core → ℕ → Type 0
IsUnused core number = times_named core number ≡ 0

abbrev bit : Bool → ℕ
bit b = cond b 1 0

-- a number that is listed once more, where it was unused
one_more : (core : Core) → Standing core → (number : ℕ) → IsUnused core number → (n : ℕ) → count n (number ∷ []) + (count n (names_of core.files) + count n core.condemned) ≤ 1
one_more core inv number unused n = by (n == number) refl
  where
    by : (b : Bool) → (n == number) ≡ b → (cond (n == number) 1 0 + 0) + (count n (names_of core.files) + count n core.condemned) ≤ 1
    by true e =
        let zero_there = subst (λ (m : ℕ). count m (names_of core.files) + count m core.condemned ≡ 0) (sym (eqb-true n number e)) unused in
        let one = ap bit e in
        omega arith
    by false e = let none = ap bit e in let was = inv.once n in omega arith

module _ (core : Core) (inv : Standing core) (snapshot : Snapshot) (out : core.snapshot ≡ Some snapshot) (number : ℕ) (unused : IsUnused core number) where
  names_stay : (n : ℕ) (made : List File) → count n (names_of (map (name_all (λ file. file.stored.tomb)) core.files ++ made)) ≡ count n (names_of core.files) + count n (names_of made)
  names_stay n made =
      ap (count n) (names-append (map (name_all (λ file. file.stored.tomb)) core.files) made)
      ∙ count-append n (names_of (map (name_all (λ file. file.stored.tomb)) core.files)) (names_of made)
      ∙ ap (λ (ns : List ℕ). count n ns + count n (names_of made)) (names_same (name_all (λ file. file.stored.tomb)) (λ file. refl) (λ file. refl) core.files)

  ends_with : (made : List File) → IsFileOf snapshot made → ((n : ℕ) → count n (names_of made) + (count n (names_of core.files) + count n core.condemned) ≤ 1) → (new : Core) × EndsSnapshot core new
  ends_with made is_made fresh = (
    without_snapshot snapshot made (λ file. file.stored.tomb) [] core,
    record {
      snapshot = snapshot;
      stands = out;
      made = made;
      is_made = is_made;
      tombs = λ file. file.stored.tomb;
      replaced = [];
      renames = record { outside = names_of made; unused = fresh; moved = λ n. let e = names_stay n made in omega arith };
      same = refl;
    },
  )

  pub snapshot_ends : (new : Core) × EndsSnapshot core new
  snapshot_ends = by snapshot.points refl
    where
      by : (points : Points) → snapshot.points ≡ points → (new : Core) × EndsSnapshot core new
      by [] e = ends_with [] (inl (e, refl)) (λ n. let was = inv.once n in omega arith)
      by (point ∷ points) e = ends_with (snapshot_file snapshot number None ∷ []) (inr ((λ none. let f = sym e ∙ none in absurd (cc)), (number, None, refl))) (one_more core inv number unused)

-- a file where the output has a point, else none
output_file : (core : Core) → Standing core → (merge : Merge) (number : ℕ) → IsUnused core number → (points : Points) → merge.output ≡ points
    → (made : List File) × IsFileOfMerge merge made × ((n : ℕ) → count n (names_of made) + (count n (names_of core.files) + count n core.condemned) ≤ 1)
output_file core inv merge number unused [] e = ([], inl (e, refl), λ n. let was = inv.once n in omega arith)
output_file core inv merge number unused (point ∷ points) e =
    (file_of_merge merge number None ∷ [], inr ((λ none. let f = sym e ∙ none in absurd (cc)), (number, None, refl)), one_more core inv number unused)

pub merge_ends : (core : Core) → Standing core → (earlier : List Merge) (merge : Merge) (others : List Merge) → core.merges ≡ earlier ++ merge ∷ others → (number : ℕ) → IsUnused core number → (new : Core) × EndsMerge core new
merge_ends core inv earlier merge others listed number unused =
    let all = subst (λ (merges : List Merge). AllByRecursion (MergeStands core.files) merges) listed inv.merges in
    let own : MergeStands core.files merge = (let right = all_right (MergeStands core.files) earlier (merge ∷ others) all in right.0) in
    let made = output_file core inv merge number unused merge.output refl in (
      _,
      record {
        merge = merge;
        earlier = earlier;
        others = others;
        listed = listed;
        before = own.before;
        behind = own.behind;
        placed = own.placed;
        made = made.0;
        is_made = made.1;
        unused = made.2;
        same = refl;
      },
    )

-- an empty directory can be read
pub empty_readable : IsReadableImage empty_image
empty_readable = record { kinds = λ a b v w first second same. absurd first; takes = tt }

-- and opened, with no points and no keys
pub empty_opens : (new : Core) × OpensDirectory empty_image new
empty_opens = (
  opened empty_image no_points no_keys no_keys,
  record { points = no_points; are = λ cell. refl; index = no_keys; stored = no_keys; is_index = λ key. ((λ is. absurd (cc)), (λ has. absurd (none_there has.1))); same = refl },
)
  where
    no_keys : Key → Bool
    no_keys key = false

    none_there : false ≡ true → ⊥
    none_there e = cc
