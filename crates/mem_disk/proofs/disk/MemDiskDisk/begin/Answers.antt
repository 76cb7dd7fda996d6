use Rattle.mem_disk.proofs.Changes.{exactly_same}
use Rattle.mem_disk.proofs.disk.MemDiskDisk.begin.Goals as goal

pub returns-then-fails-clause-crash : goal.returns-then-fails-clause-crash
returns-then-fails-clause-crash c = exactly_same c.args.self.now.contents.changes.items

pub returns-in_err-calls-clause-crash : goal.returns-in_err-calls-clause-crash
returns-in_err-calls-clause-crash c = exactly_same c.args.self.now.contents.changes.items

pub returns-clause-crash : goal.returns-clause-crash
returns-clause-crash c = exactly_same c.args.self.now.contents.changes.items
