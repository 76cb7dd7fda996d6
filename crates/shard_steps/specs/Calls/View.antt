-- What does a view show of an engine, and why is none begun?
use Rattle.std.specs.Prelude.{◌≡◌, ◌≤◌, ⊤, All}
use Rattle.tsdb_types.specs.Moments.{IsMoment}
use Rattle.point_model.specs.declared.need.Need.{Need}
use Rattle.point_model.specs.Acceptance.{IsSound}
use Rattle.point_model.specs.Cursors.{Shown, Gives}
use Rattle.store_trait.specs.declared.fault.ViewFault.{ViewFault}
use Rattle.store_trait.specs.declared.fault.ViewFault.TheVariants as fault
use Rattle.shard_steps.specs.declared.shard.Shard.{Shard}

-- It shows what the need asks of the points in memory, at the number of the last entry.
pub record Lends {D : Type 0} (need : Need) (shown : Shown) (shard : Shard D) : Type 0 where
  pub number : shown.number ≡ shard.logs.number
  pub gives : Gives shard.live.points need shown
  pub sound : IsSound shard.live.points
  pub timed : All (λ point. IsMoment point.0.time) shard.live.points

-- as many views as may be are out, or there was no memory
abbrev pub HasCause : {D : Type 0} → Shard D → ViewFault → Type 0
HasCause shard (fault.TooManyViews out) = (out ≡ shard.views) × (shard.settings.views ≤ shard.views)
HasCause shard fault.Memory = ⊤
HasCause shard fault.Fault = ⊥
