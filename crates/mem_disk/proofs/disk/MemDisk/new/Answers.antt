use Rattle.mem_disk.proofs.Changes.{nothing_left}
use Rattle.mem_disk.proofs.disk.MemDisk.new.Goals as goal

pub returns-clause-durable : goal.returns-clause-durable
returns-clause-durable c = nothing_left c.new-2.result.changes.items c.new-2.ensures.empty
