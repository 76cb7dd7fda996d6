use Rattle.shard_core.proofs.WholeLemmas.{crash_goes_on, images_stand_now, images_readable, opens_meets}
use Rattle.shard_core.proofs.laws.crashes_leave.Goals as goal

pub returns : goal.returns
returns c = record { stands = images_stand_now; readable = images_readable; begins = crash_goes_on; opens = opens_meets }
