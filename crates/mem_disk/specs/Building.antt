-- A directory that is built from files in memory, the lowest number first.
use Rattle.std.specs.Prelude.{◌≡◌, ℕ, ◌≤◌, List, Option, Some, None, reverse, IsSome, IsTrue}
use Rattle.std.specs.BTreeMap as tree
use Rattle.std.specs.FinMap.{get}
use Rattle.std.specs.Ordering.{nat_cmp}
use Rattle.shard_disk.specs.Directory.{Directory}
use Rattle.mem_disk.specs.History.{adopted_after, bytes_of, crashes_of, reads}
use Rattle.mem_disk.specs.Opened.{IsLeastAbove}
use Rattle.mem_disk.specs.Replayed.{Files}
use Rattle.mem_disk.specs.declared.change.Change.{Change}

-- the first, or else the second
abbrev pub or_else : {A : Type 0} → Option A → Option A → Option A
or_else None b = b
or_else (Some a) b = Some a

-- All files are in the directory or among the rest, whose numbers come behind those that were given. The directory is
-- as it reads, whatever crash comes.
pub record IsBuilt (all rest : Files) (changes : List Change) (next : ℕ) : Type 0 where
  pub joined : (n : ℕ) → or_else (get (reads (reverse changes)) n) (bytes_of (tree.get nat_cmp rest n)) ≡ bytes_of (tree.get nat_cmp all n)
  pub behind : (n : ℕ) → IsSome (tree.get nat_cmp rest n) → next ≤ n
  pub durable : (image : Directory) → (crashes_of changes).now image → image ≡ reads (reverse changes)
  pub least : IsLeastAbove (reads (reverse changes)) next
  pub adopted : (n : ℕ) → IsSome (get (reads (reverse changes)) n) → IsTrue (adopted_after (reverse changes) n)
