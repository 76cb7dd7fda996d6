use Rattle.std.proofs.Common.{inl, refl, arith}
use Rattle.shard_disk.proofs.Runs.{adds_nothing}
use Rattle.shard_disk.proofs.Steps.{changes_same}
use Rattle.mem_disk.specs.History.{crashes_of}
use Rattle.mem_disk.proofs.Changes.{exactly_none, exactly_same, offers, shows_same}
use Rattle.mem_disk.proofs.contents.Contents.refuse.Goals as goal

pub returns-then-self-clause-crash : goal.returns-then-self-clause-crash
returns-then-self-clause-crash c = adds_nothing _ _ _ (changes_same c.args.self.now.next _ (λ file. inl refl)) (exactly_same c.args.self.now.changes.items).follows

pub returns-then-self-clause-shows : goal.returns-then-self-clause-shows
returns-then-self-clause-shows c = record {
  appears = λ begun fits. absurd (omega (arith, fits, c.if-self.true));
  left_out = λ refused. shows_same (crashes_of c.args.self.now.changes.items);
}

pub returns-in-Ok-clause-crash : goal.returns-in-Ok-clause-crash
returns-in-Ok-clause-crash c = c.in-Ok.ensures.crash.follows

pub returns-in-Ok-clause-shows : goal.returns-in-Ok-clause-shows
returns-in-Ok-clause-shows c = offers _ _ _ _ c.in-Ok.ensures.crash

pub returns-in-Err-clause-crash : goal.returns-in-Err-clause-crash
returns-in-Err-clause-crash c = adds_nothing _ _ _ (changes_same c.args.self.now.next _ (λ file. inl refl)) (exactly_none c.args.self.now.changes.items c.offer.new.self.changes.items c.in-Err.ensures.err).follows
