-- Files in maps beside what a history makes of a directory.
use Rattle.std.specs.Prelude.{◌≡◌, ◌≢◌, ◌⊎◌, ℕ, List, Option, None, Vec}
use Rattle.std.specs.declared.alloc.Global.{Global}
use Rattle.std.specs.BTreeMap as tree
use Rattle.std.specs.BTreeMap.{BTreeMap}
use Rattle.std.specs.FinMap.{get}
use Rattle.std.specs.Ordering.{nat_cmp}
use Rattle.shard_disk.specs.Directory.{Directory, Step}
use Rattle.mem_disk.specs.History.{bytes_of, reads, leaves}
use Rattle.mem_disk.specs.declared.change.Change.{Change}

-- files in memory, by their numbers
abbrev pub Files : Type 0
Files = BTreeMap ℕ (Vec ℕ Global)

-- these are the files of a directory
abbrev pub AreFiles : Directory → Files → Type 0
AreFiles directory files = (n : ℕ) → bytes_of (tree.get nat_cmp files n) ≡ get directory n

-- a step is made of one file, and each other is the same
pub record ChangesFile (number : ℕ) (step : Step) (old new : Files) : Type 0 where
  pub here : step (bytes_of (tree.get nat_cmp old number)) (bytes_of (tree.get nat_cmp new number))
  pub others : (n : ℕ) → n ≢ number → tree.get nat_cmp new n ≡ tree.get nat_cmp old n

-- a file that was left is as it reads, and one that wasn't still isn't
abbrev pub Determines : Option (List ℕ) → Step
Determines read old new = ((old ≡ None) × (new ≡ None)) ⊎ (new ≡ read)

-- after these changes the one map has the files as they read, the other as a crash may leave them
pub record Replays (past : List Change) (read left : Files) : Type 0 where
  pub reading : AreFiles (reads past) read
  pub image : Directory
  pub allowed : leaves past image
  pub leaving : AreFiles image left
