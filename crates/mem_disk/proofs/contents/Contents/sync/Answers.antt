use Rattle.std.proofs.Common.{sym, ◌∙◌}
use Rattle.mem_disk.proofs.Changes.{exactly_same, follows_synced, is_durable, shows_same, shows_synced}
use Rattle.mem_disk.specs.History.{crashes_of}
use Rattle.mem_disk.proofs.Settled.{settled_durable}
use Rattle.mem_disk.proofs.contents.Contents.sync.Goals as goal

pub returns-then-not-remove-clause-durable : goal.returns-then-not-remove-clause-durable
returns-then-not-remove-clause-durable c = settled_durable c.args.self.now.changes.items c.args.no (c.args.self.now.clean c.args.no c.requires (sym c.remove.ensures.test ∙ c.if-not-remove.true)) c.requires

pub returns-then-not-remove-clause-crash : goal.returns-then-not-remove-clause-crash
returns-then-not-remove-clause-crash c = (exactly_same c.args.self.now.changes.items).follows

pub returns-then-not-remove-clause-shows : goal.returns-then-not-remove-clause-shows
returns-then-not-remove-clause-shows c = λ d e now did. shows_same (crashes_of c.args.self.now.changes.items) d e now did.0

pub returns-clause-shows : goal.returns-clause-shows
returns-clause-shows c = shows_synced c.args.self.now.changes.items c.note.new.changes.items c.args.no c.note.ensures.items

pub returns-clause-durable : goal.returns-clause-durable
returns-clause-durable c = is_durable c.args.self.now.changes.items c.note.new.changes.items c.args.no c.note.ensures.items

pub returns-clause-crash : goal.returns-clause-crash
returns-clause-crash c = follows_synced c.args.self.now.changes.items c.note.new.changes.items c.args.no c.note.ensures.items
