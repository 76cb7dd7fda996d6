use Rattle.mem_disk.proofs.Changes.{exactly_same}
use Rattle.mem_disk.proofs.disk.MemDiskDisk.close.Goals as goal

pub returns-in-Some-clause-crash : goal.returns-in-Some-clause-crash
returns-in-Some-clause-crash c = exactly_same c.args.self.now.contents.changes.items
