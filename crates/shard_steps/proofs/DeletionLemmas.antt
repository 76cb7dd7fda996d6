-- A history goes on with a deletion, or stays.
use Rattle.std.proofs.Common.{ℕ, refl, Err}
use Rattle.shard_disk.specs.declared.disk.Disk.{Ghosts}
use Rattle.point_model.specs.declared.deletion.Deletion.{Deletion}
use Rattle.store_trait.specs.declared.fault.DeleteFault.{DeleteFault}
use Rattle.shard_steps.specs.declared.shard.Shard.{Shard}
use Rattle.shard_steps.specs.Calls.Delete.{GoesOn, LeavesRest}
use Rattle.shard_steps.specs.Calls.Write.IsTried.{Untouched}

-- nothing was done
pub rests : {D R W : Type 0} (g : Ghosts D R W) (shard : Shard D) → LeavesRest g shard shard
rests g shard = record { settings = refl; views = refl; series = refl; handed_out = refl }

pub still : {D R W : Type 0} (g : Ghosts D R W) (client : ℕ) (deletion : Deletion) (shard : Shard D) (e : DeleteFault) → GoesOn g client deletion shard shard (Err e)
still g client deletion shard e = record {
  ok = record {};
  stays = λ told start since made refused doubt runs. (refused, doubt, Untouched refl refl, runs);
  untouched = λ is. refl;
}
