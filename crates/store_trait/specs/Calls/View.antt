-- What does a view of a store show, when is it refused, and what does its end leave?
use Rattle.std.specs.Prelude.{◌≡◌, ◌≢◌, ℕ, ◌≤◌, Bool, false, ◌==◌, IsTrue, List, [], ◌∷◌, length, All, IsSome, None, ⊤, Result, IsErrOf, if◌then◌else◌}
use Rattle.shard_disk.specs.Health.{Health, Failed, Rose}
use Rattle.tsdb_types.specs.Moments.{IsMoment}
use Rattle.point_model.specs.declared.need.Need.{Need}
use Rattle.point_model.specs.Acceptance.{IsSound}
use Rattle.point_model.specs.Cursors.{Shown, Gives}
use Rattle.store_trait.specs.declared.fault.ViewFault.{ViewFault}
use Rattle.store_trait.specs.declared.fault.ViewFault.TheVariants as fault
use Rattle.store_trait.specs.Told.{Told, state_now}

-- One view more is out. It shows what the need asks of the points behind all entries that the store then knows.
pub record Begins (need : Need) (shown : Shown) (loan : ℕ) (can_be_damaged : Bool) (old new : Told) : Type 0 where
  pub number : shown.number ≡ (state_now new).number
  pub gives : IsTrue new.tells → Gives (state_now new).points need shown
  pub sound : IsTrue new.tells → IsSound (state_now new).points
  pub timed : IsTrue new.tells → All (λ point. IsMoment point.0.time) (state_now new).points
  pub own : new.own ≡ old.own
  pub tried : new.tried ≡ old.tried
  pub out : new.out ≡ loan ∷ old.out
  -- it can be damaged only where the store doesn't tell its points, and never where that has no limits
  pub told_is_whole : IsTrue new.tells → can_be_damaged ≡ false
  pub unlimited_is_whole : new.limits ≡ None → can_be_damaged ≡ false

-- Why a view was refused, by what the store tells afterwards and by its health before and after. So many views are out only
-- where one of this store is, and they are its own; want of memory may come anywhere.
abbrev pub ViewHasCause : Told → Health → Health → ViewFault → Type 0
ViewHasCause told old new (fault.TooManyViews out) = IsSome told.limits × (told.out ≢ []) × (out ≡ length told.out)
ViewHasCause told old new fault.Memory = ⊤
ViewHasCause told old new fault.Fault = Failed old new

-- no answer but a fault changes the health
abbrev pub IsQuiet : {T : Type 0} → Result T ViewFault → Health → Health → Type 0
IsQuiet result old new = ¬ (IsErrOf result fault.Fault) → new ≡ old

-- the loans without the first of this number
abbrev pub without : ℕ → List ℕ → List ℕ
without loan [] = []
without loan (other ∷ others) = if loan == other then others else other ∷ without loan others

-- This view is no longer out.
pub record Ends (loan : ℕ) (old new : Told) : Type 0 where
  pub own : new.own ≡ old.own
  pub tried : new.tried ≡ old.tried
  pub out : new.out ≡ without loan old.out

-- The store takes over that a view met faults. Where it met none, the store stays as it is.
pub record TakesBack (view old new : Health) : Type 0 where
  pub grows : old.faults ≤ new.faults
  pub later : Rose 0 view.faults → Rose old.faults new.faults
  pub quiet : view.faults ≡ 0 → new ≡ old
