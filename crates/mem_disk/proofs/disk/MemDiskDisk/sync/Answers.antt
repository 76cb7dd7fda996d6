use Rattle.mem_disk.proofs.Changes.{exactly_same, shows_same}
use Rattle.mem_disk.specs.History.{crashes_of}
use Rattle.mem_disk.proofs.disk.MemDiskDisk.sync.Goals as goal

pub returns-then-fails-clause-crash : goal.returns-then-fails-clause-crash
returns-then-fails-clause-crash c = (exactly_same c.args.self.now.contents.changes.items).follows

pub returns-then-fails-clause-shows : goal.returns-then-fails-clause-shows
returns-then-fails-clause-shows c = λ d e now did. shows_same (crashes_of c.args.self.now.contents.changes.items) d e now did.0
