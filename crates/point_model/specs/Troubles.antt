-- When may a cursor fail?
use Rattle.std.specs.Prelude.{◌≡◌, Bool, IsTrue, Result, IsErrOf}
use Rattle.shard_disk.specs.Health.{Health, Ages, Failed}
use Rattle.shard_disk.specs.declared.damage.Damage.{Damage}
use Rattle.point_model.specs.declared.fault.CursorFault.{CursorFault}
use Rattle.point_model.specs.declared.fault.CursorFault.TheVariants as cursor_fault

-- A device failed only where the cursor's count of faults rose, which it did in no call that answers otherwise; and bytes are
-- damaged only where they can be.
pub record CursorHasCause {T : Type 0} (result : Result T CursorFault) (can_be_damaged : Bool) (old new : Health) : Type 0 where
  pub ages : Ages old new
  pub quiet : ¬ (IsErrOf result cursor_fault.Fault) → new ≡ old
  pub fault : IsErrOf result cursor_fault.Fault → Failed old new
  pub damaged : (damage : Damage) → IsErrOf result (cursor_fault.Damaged damage) → IsTrue can_be_damaged
