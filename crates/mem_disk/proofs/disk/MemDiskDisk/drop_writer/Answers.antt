use Rattle.mem_disk.proofs.Changes.{exactly_same}
use Rattle.mem_disk.proofs.disk.MemDiskDisk.drop_writer.Goals as goal

pub returns-clause-crash : goal.returns-clause-crash
returns-clause-crash c = exactly_same c.args.self.now.contents.changes.items
