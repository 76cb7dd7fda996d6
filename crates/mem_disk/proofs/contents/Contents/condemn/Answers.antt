use Rattle.std.proofs.Common.{sym, ◌∙◌}
use Rattle.mem_disk.proofs.Changes.{exactly_condemned}
use Rattle.mem_disk.proofs.Images.{exactly_gone}
use Rattle.mem_disk.proofs.contents.Contents.condemn.Goals as goal

pub returns-then-not-remove-clause-crash : goal.returns-then-not-remove-clause-crash
returns-then-not-remove-clause-crash c = exactly_gone c.args.self.now.changes.items c.args.no (c.args.self.now.marked c.args.no (sym c.remove.ensures.test ∙ c.if-not-remove.true))

pub returns-clause-crash : goal.returns-clause-crash
returns-clause-crash c = exactly_condemned c.args.self.now.changes.items c.note.new.changes.items c.args.no c.note.ensures.items
