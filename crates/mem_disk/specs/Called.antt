-- Which call of a disk in memory fails, and what each makes of the count.
use Rattle.std.specs.Prelude.{◌≡◌, ◌⊎◌, ◌==◌, ℕ, ◌+◌, min, Bool, true, false, ◌||◌, List, Option, Some, None, nat_le, not, Result, Ok, Err}
use Rattle.std.specs.List.{list_any}
use Rattle.shard_disk.specs.Health.{last_count}
use Rattle.shard_disk.specs.declared.trouble.Trouble.{Trouble}
use Rattle.shard_disk.specs.declared.trouble.Trouble.TheVariants as trouble
use Rattle.mem_disk.specs.Calls.{is_at}
use Rattle.mem_disk.specs.Closed.{named_of, place_of, stop_of}
use Rattle.mem_disk.specs.declared.calls.DeviceCalls.{DeviceCalls}
use Rattle.mem_disk.specs.declared.calls.DiskCalls.{DiskCalls}
use Rattle.mem_disk.specs.declared.disk.MemDisk.{MemDisk}
use Rattle.mem_disk.specs.declared.fail.Fail.{Fail}

-- the place is that of the stop, or comes behind it
abbrev pub is_stopped : Option ℕ → ℕ → Bool
is_stopped None place = false
is_stopped (Some stop) place = nat_le stop place

-- the call at this place fails: the list names it, or the disk has stopped
abbrev pub is_failing_at : List Fail → Option ℕ → ℕ → Bool
is_failing_at failing stop place = list_any (is_at place) failing || is_stopped stop place

-- the next call fails
abbrev pub is_next_failing : DiskCalls → Bool
is_next_failing calls = is_failing_at calls.failing.items calls.stop calls.next

-- the next call of a reader or writer fails: the list names it
abbrev pub is_device_failing : DeviceCalls → Bool
is_device_failing calls = list_any (λ at. at == calls.next) calls.failing.items

abbrev pub is_device_fault : Trouble → Bool
is_device_fault trouble.Fault = true
is_device_fault trouble.Memory = false

-- the answer is a fault
abbrev pub is_fault : {T : Type 0} → Result T Trouble → Bool
is_fault (Ok value) = false
is_fault (Err refusal) = is_device_fault refusal

-- the answer is want of memory
abbrev pub is_memory : {T : Type 0} → Result T Trouble → Bool
is_memory (Ok value) = false
is_memory (Err refusal) = not (is_device_fault refusal)

-- the same of a refusal that gives something back
abbrev pub is_refused_for_memory : {T W : Type 0} → Result T (W × Trouble) → Bool
is_refused_for_memory (Ok value) = false
is_refused_for_memory (Err refusal) = not (is_device_fault refusal.1)

abbrev pub is_refused_by_fault : {T W : Type 0} → Result T (W × Trouble) → Bool
is_refused_by_fault (Ok value) = false
is_refused_by_fault (Err refusal) = is_device_fault refusal.1

-- One call was made. It answered a fault exactly where it was to, and the next one has the next place, up to the last.
pub record IsCalled (is_fault : Bool) (old new : MemDisk) : Type 0 where
  pub answer : is_fault ≡ is_next_failing old.calls
  pub place : place_of new ≡ min (place_of old + 1) last_count
  pub stop : stop_of new ≡ stop_of old
  pub named : named_of new ≡ named_of old

-- what was done has no place of its own
pub record IsUncounted (old new : MemDisk) : Type 0 where
  pub place : place_of new ≡ place_of old
  pub stop : stop_of new ≡ stop_of old
  pub named : named_of new ≡ named_of old

-- The same of a call that notes what a crash may leave of it where it fails. Where there is no memory for that it isn't
-- made, and the next one is still to fail.
abbrev pub IsCalledOrPutOff : Bool → Bool → MemDisk → MemDisk → Type 0
IsCalledOrPutOff is_memory is_fault old new = IsCalled is_fault old new ⊎ ((is_memory ≡ true) × (is_next_failing old.calls ≡ true) × IsUncounted old new)

-- One call of a reader or writer was made: it answered a fault exactly where the list names it.
pub record IsDeviceCalled (is_fault : Bool) (old new : DeviceCalls) : Type 0 where
  pub answer : is_fault ≡ is_device_failing old
  pub place : new.next ≡ min (old.next + 1) last_count
  pub named : new.failing ≡ old.failing
