-- Why is a deletion refused by a store?
use Rattle.std.specs.Prelude.{◌≡◌, ◌<◌, ⊤, Result, IsErrOf}
use Rattle.shard_disk.specs.Health.{Health, Failed}
use Rattle.store_trait.specs.declared.fault.DeleteFault.{DeleteFault}
use Rattle.store_trait.specs.declared.fault.DeleteFault.TheVariants as fault
use Rattle.store_trait.specs.Told.{Told, state_now, last_number}

-- Why a deletion was refused, by what the store tells afterwards and by its health before and after: at the last
-- number alone; below it a fault that raised the count; and want of memory may come anywhere.
abbrev pub DeleteHasCause : Told → Health → Health → DeleteFault → Type 0
DeleteHasCause told old new fault.HistoryFull = (state_now told).number ≡ last_number
DeleteHasCause told old new fault.Memory = ⊤
DeleteHasCause told old new fault.Fault = Failed old new × ((state_now told).number < last_number)

-- the entry may have been tried: a fault or want of memory refused it
abbrev pub MayBeTried : DeleteFault → Type 0
MayBeTried fault.HistoryFull = ⊥
MayBeTried fault.Memory = ⊤
MayBeTried fault.Fault = ⊤

-- no answer but a fault changes the health
abbrev pub IsQuiet : {T : Type 0} → Result T DeleteFault → Health → Health → Type 0
IsQuiet result old new = ¬ (IsErrOf result fault.Fault) → new ≡ old
