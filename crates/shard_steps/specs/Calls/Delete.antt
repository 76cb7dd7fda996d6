-- What does a deletion make of an engine, and why is one refused?
use Rattle.std.specs.Prelude.{◌≡◌, ℕ, ◌<◌, ◌≤◌, List, [], ◌∷◌, ◌++◌, Option, None, IsTrue, IsErrOf, ⊤, Result, IfErr, OnOk, OnErr}
use Rattle.shard_disk.specs.Health.{Health, Failed}
use Rattle.shard_disk.specs.declared.disk.Disk.{Ghosts}
use Rattle.point_model.specs.Histories.{State, state_after}
use Rattle.point_model.specs.declared.deletion.Deletion.{Deletion}
use Rattle.point_model.specs.declared.entry.Entry.{Entry}
use Rattle.point_model.specs.declared.entry.Entry.TheVariants.{Delete}
use Rattle.shard_state.specs.History.{Attempt, Made}
use Rattle.wal_store.specs.Segments.{last_number}
use Rattle.store_trait.specs.declared.fault.DeleteFault.{DeleteFault}
use Rattle.store_trait.specs.declared.fault.DeleteFault.TheVariants as fault
use Rattle.shard_steps.specs.declared.shard.Shard.{Shard}
use Rattle.shard_steps.specs.Calls.Write.{IsTried}
use Rattle.shard_steps.specs.Shards.{Runs, state_of}

-- The deletion is one entry more, of this number: the points are those before without what it takes away.
pub record AddsDeletion {D : Type 0} (client : ℕ) (deletion : Deletion) (number : ℕ) (old new : Shard D) : Type 0 where
  pub state : state_of new ≡ state_after (state_of old) (Delete client deletion ∷ [])
  pub given : number ≡ new.logs.number
  pub limit : number ≤ last_number

-- What no deletion changes, refused or not: a series stays held without a point.
pub record LeavesRest {D R W : Type 0} (g : Ghosts D R W) (old new : Shard D) : Type 0 where
  pub settings : new.settings ≡ old.settings
  pub views : new.views ≡ old.views
  pub series : new.logs.series.keys ≡ old.logs.series.keys
  pub handed_out : g.handed_out new.logs.disk ≡ g.handed_out old.logs.disk

-- Why a deletion was refused: exactly at the last number; below it a fault raised the disk's count, and want of memory may come
-- anywhere.
abbrev pub HasCause : {D : Type 0} → Shard D → Health → Health → DeleteFault → Type 0
HasCause shard old new fault.HistoryFull = shard.logs.number ≡ last_number
HasCause shard old new fault.Memory = ⊤
HasCause shard old new fault.Fault = Failed old new × (shard.logs.number < last_number)

-- The step of a history: the deletion becomes its last entry and none is in doubt, or a refusal leaves its entries. A deletion that
-- the last number refuses changes nothing.
pub record GoesOn {D R W : Type 0} (g : Ghosts D R W) (client : ℕ) (deletion : Deletion) (old new : Shard D) (result : Result ℕ DeleteFault) : Type 0 where
  pub ok : OnOk result (IsTrue g.tells → (start : State) (since : ℕ) (made : List Made) (refused : List Attempt) (doubt : Option Entry) → Runs g old start since made refused doubt
      → Runs g new start since (made ++ record { entry = Delete client deletion; moment = (g.crashes new.logs.disk).moment } ∷ []) refused None)
  pub stays : OnErr result (IsTrue g.tells → (start : State) (since : ℕ) (made : List Made) (refused : List Attempt) (doubt : Option Entry) → Runs g old start since made refused doubt
      → (tried : List Attempt) × (left : Option Entry) × IsTried (IsErrOf result fault.Fault) old.logs.number (Delete client deletion) refused doubt tried left × Runs g new start since made tried left)
  pub untouched : IfErr result (λ e. e ≡ fault.HistoryFull → new ≡ old)

-- no answer but a fault changes the health of the disk
abbrev pub IsQuiet : Result ℕ DeleteFault → Health → Health → Type 0
IsQuiet result old new = ¬ (IsErrOf result fault.Fault) → new ≡ old
