use Rattle.mem_disk.proofs.Replaying.{replays_none}
use Rattle.mem_disk.proofs.replay.Replay.new.Goals as goal

pub returns : goal.returns
returns c = replays_none c.new.result c.new-2.result c.new.ensures.empty c.new-2.ensures.empty
