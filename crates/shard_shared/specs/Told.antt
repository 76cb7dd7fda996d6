-- What does the store of one client of several tell?
use Rattle.std.specs.Prelude.{ℕ, Bool, true, false, reverse, Option, Some, None}
use Rattle.shard_disk.specs.Health.{Health}
use Rattle.shard_disk.specs.declared.disk.Disk.{Ghosts}
use Rattle.history_turn.specs.declared.view.PassView.{PassView}
use Rattle.point_model.specs.Histories.{State, nothing}
use Rattle.store_trait.specs.Told.{Limits, Told}
use Rattle.store_trait.specs.declared.fault.DeleteFault.{DeleteFault}
use Rattle.store_trait.specs.declared.fault.DeleteFault.TheVariants as delete_fault
use Rattle.store_trait.specs.declared.fault.WriteFault.{WriteFault}
use Rattle.store_trait.specs.declared.fault.WriteFault.TheVariants as fault
use Rattle.shard_calls.specs.Told.{limits_of}
use Rattle.shard_steps.specs.Shards.{state_of}
use Rattle.shard_steps.specs.declared.shard.Shard.{Shard}
use Rattle.shard_shared.specs.Entries.{entries_in, faults_lent, most_found, tried_lent, views_lent}
use Rattle.shard_shared.specs.declared.engine.Entered.{Entered}
use Rattle.shard_shared.specs.declared.engine.Lent.{Lent}

-- what a pass knows and owns of an engine
abbrev pub EngineView : Type 0 → Type 0
EngineView D = PassView (Option (Shard D)) Entered Lent

-- the points and the number of a start
abbrev pub state_at : {D : Type 0} → Option (Shard D) → State
state_at (Some start) = state_of start
state_at None = nothing

-- the number before that of the first entry
abbrev pub number_at : {D : Type 0} → Option (Shard D) → ℕ
number_at start = (state_at start).number

-- the limits of an engine with this start
abbrev pub limits_at : {D : Type 0} → Option (Shard D) → Option Limits
limits_at (Some start) = Some (limits_of (state_of start) start.logs.series.keys start)
limits_at None = None

-- whether its disk was steady
abbrev pub is_steady_at : {D R W : Type 0} → Ghosts D R W → Option (Shard D) → Bool
is_steady_at g (Some start) = (g.health start.logs.disk).is_steady
is_steady_at g None = true

-- It tells the history that its pass knows, the numbers that the pass owns, oldest first, and the views among the loans of the
-- pass. The series are the most that one of its refused calls found held, and what these tried is noted among the loans too.
abbrev pub told_over : {D : Type 0} → ℕ → EngineView D → Told
told_over client view = record {
  client = client;
  start = state_at view.start;
  tells = true;
  is_alone = false;
  limits = limits_at view.start;
  history = entries_in view.seen;
  own = reverse view.own;
  series = most_found view.loans;
  out = views_lent view.loans;
  tried = tried_lent view.loans;
}

-- Its count is of the faults that it answered. It is steady where the disk was at the start.
abbrev pub health_by : {D R W : Type 0} → Ghosts D R W → EngineView D → Health
health_by g view = record { faults = faults_lent view.loans; is_steady = is_steady_at g view.start }

-- whether a refusal tells a fault of the disk
abbrev pub is_fault : WriteFault → Bool
is_fault (fault.TypeConflict field held number) = false
is_fault fault.HistoryFull = false
is_fault (fault.SeriesFull held) = false
is_fault (fault.CacheFull held) = false
is_fault fault.Memory = false
is_fault fault.Fault = true

-- the same of a deletion
abbrev pub is_deletion_fault : DeleteFault → Bool
is_deletion_fault delete_fault.HistoryFull = false
is_deletion_fault delete_fault.Memory = false
is_deletion_fault delete_fault.Fault = true
