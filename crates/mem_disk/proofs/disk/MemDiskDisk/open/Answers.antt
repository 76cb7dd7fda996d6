use Rattle.mem_disk.proofs.Changes.{exactly_same}
use Rattle.mem_disk.proofs.disk.MemDiskDisk.open.Goals as goal

pub returns-then-fails-clause-crash : goal.returns-then-fails-clause-crash
returns-then-fails-clause-crash c = exactly_same c.args.self.now.contents.changes.items

pub returns-in_err-bytes-clause-crash : goal.returns-in_err-bytes-clause-crash
returns-in_err-bytes-clause-crash c = exactly_same c.args.self.now.contents.changes.items

pub returns-in_err-calls-clause-crash : goal.returns-in_err-calls-clause-crash
returns-in_err-calls-clause-crash c = exactly_same c.args.self.now.contents.changes.items

pub returns-in_err-more-clause-crash : goal.returns-in_err-more-clause-crash
returns-in_err-more-clause-crash c = exactly_same c.args.self.now.contents.changes.items

pub returns-in_err-insert-clause-crash : goal.returns-in_err-insert-clause-crash
returns-in_err-insert-clause-crash c = exactly_same c.args.self.now.contents.changes.items

pub returns-clause-crash : goal.returns-clause-crash
returns-clause-crash c = exactly_same c.args.self.now.contents.changes.items
