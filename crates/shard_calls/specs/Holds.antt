-- What holds of a store and its engine?
use Rattle.std.specs.Prelude.{◌≡◌, ◌⊎◌, ℕ, List, ◌++◌, Any, Contains, Option, IsTrue}
use Rattle.std.specs.List.{AllByRecursion}
use Rattle.shard_disk.specs.HandedOut.{HandedOut}
use Rattle.shard_disk.specs.declared.disk.Disk.{Ghosts}
use Rattle.point_model.specs.Histories.{State, state_after}
use Rattle.point_model.specs.declared.entry.Entry.{Entry}
use Rattle.store_trait.specs.Calls.Write.{WritesSeries}
use Rattle.shard_state.specs.History.{Attempt, Made, entries_of}
use Rattle.shard_steps.specs.Shards.{IsReady, Runs, state_of}
use Rattle.shard_steps.specs.declared.shard.Shard.{Shard}

-- The engine ran from the start to these entries: every crash since leaves a prefix of them, with at most one entry more, which was tried
-- behind exactly that prefix. The last that was refused may be in doubt.
pub record HasRun {D R W : Type 0} (g : Ghosts D R W) (start : State) (since : ℕ) (history : List Entry) (tried : List Attempt) (shard : Shard D) : Type 0 where
  pub made : List Made
  pub are : entries_of made ≡ history
  pub refused : List Attempt
  pub were_tried : AllByRecursion (Contains tried) refused
  pub doubt : Option Entry
  pub runs : Runs g shard start since made refused doubt

-- The series of the start are held, and those that the entries write; and no others but such as a batch writes that was tried.
pub record HoldsSeries (first : List (List ℕ)) (entries : List Entry) (tried : List Attempt) (keys : List (List ℕ)) : Type 0 where
  pub more : List (List ℕ)
  pub from_start : keys ≡ first ++ more
  pub written : (text : List ℕ) → Any (WritesSeries text) entries → Contains keys text
  pub only : (text : List ℕ) → Contains more text → Any (WritesSeries text) entries ⊎ Any (λ (attempt : Attempt). WritesSeries text attempt.1) tried

-- The engine is ready, and its points and number are those behind the entries. It holds the series of the start and of each entry. Where
-- the disk was sound since a moment, the engine ran since then. Its disk has handed out what it had at the start: no reader is out more,
-- and no file is adopted or given up.
pub record Holds {D R W : Type 0} (g : Ghosts D R W) (IsSound : ℕ → Type 0) (start : State) (first : List (List ℕ)) (handed : HandedOut)
    (entries : List Entry) (tried : List Attempt) (shard : Shard D) : Type 0 where
  pub ready : IsReady g shard
  pub state : state_of shard ≡ state_after start entries
  pub series : HoldsSeries first entries tried shard.logs.series.keys
  pub ran : IsTrue g.tells → (since : ℕ) → IsSound since → HasRun g start since entries tried shard
  pub handed_out : g.handed_out shard.logs.disk ≡ handed
