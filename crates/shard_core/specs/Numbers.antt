-- How often is a file named and held, and how do generations ascend?
use Rattle.std.specs.Prelude.{◌≢◌, ℕ, suc, ◌+◌, ◌≤◌, ◌==◌, if◌then◌else◌, List, [], ◌∷◌, ◌++◌, map, ⊤}
use Rattle.std.specs.Option.{option_to_list}
use Rattle.std.specs.List.{AllByRecursion}
use Rattle.shard_core.specs.Files.{source_numbers, stored_of}
use Rattle.shard_core.specs.State.{Core, File, Merge, StoredFile, View}

-- how often the number is listed
abbrev pub count : ℕ → List ℕ → ℕ
count n [] = 0
count n (m ∷ ms) = (if n == m then 1 else 0) + count n ms

-- each number is at least the lower bound, above those before it, and below the upper bound
abbrev pub Climbs : ℕ → List ℕ → ℕ → Type 0
Climbs low [] high = low ≤ high
Climbs low (n ∷ ns) high = (low ≤ n) × Climbs (suc n) ns high

-- the numbers that files of a directory name: their own, and those of their tombstone files
abbrev pub stored_names : List StoredFile → List ℕ
stored_names [] = []
stored_names (file ∷ files) = file.no ∷ (option_to_list file.tomb ++ stored_names files)

-- the numbers that files name
abbrev pub names_of : List File → List ℕ
names_of files = stored_names (map stored_of files)

-- how often a file or the condemned list names the number
abbrev pub times_named : Core → ℕ → ℕ
times_named core n = count n (names_of core.files) + count n core.condemned

-- how often views hold the file
abbrev pub held_by_views : ℕ → List View → ℕ
held_by_views n [] = 0
held_by_views n (view ∷ views) = count n view.held + held_by_views n views

-- how often merges have the file as a source
abbrev pub held_by_merges : ℕ → List Merge → ℕ
held_by_merges n [] = 0
held_by_merges n (merge ∷ merges) = count n (source_numbers merge) + held_by_merges n merges

-- the two have no number in common
abbrev pub ShareNone : List ℕ → List ℕ → Type 0
ShareNone some others = AllByRecursion (λ n. AllByRecursion (λ other. n ≢ other) others) some

-- no two of the lists have a number in common
abbrev pub AreDisjoint : List (List ℕ) → Type 0
AreDisjoint [] = ⊤
AreDisjoint (some ∷ rest) = AllByRecursion (ShareNone some) rest × AreDisjoint rest
