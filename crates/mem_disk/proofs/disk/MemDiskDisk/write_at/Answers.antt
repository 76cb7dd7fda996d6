use Rattle.std.proofs.Common.{List, ap, length, subst, sym}
use Rattle.std.proofs.lemmas.Bool.{false≢true}
use Rattle.std.specs.Prelude.{reverse}
use Rattle.shard_disk.specs.Directory.{Directory, ChangesAt, IfThere, Torn}
use Rattle.shard_disk.proofs.Runs.{adds_nothing}
use Rattle.shard_disk.proofs.Steps.{torn_at_same}
use Rattle.mem_disk.specs.declared.change.Change.{Change}
use Rattle.mem_disk.specs.History.{reads}
use Rattle.mem_disk.proofs.Changes.{exactly_none}
use Rattle.mem_disk.proofs.disk.MemDiskDisk.write_at.Goals as goal

pub returns-then-will_fail-clause-torn : goal.returns-then-will_fail-clause-torn
returns-then-will_fail-clause-torn c =
    let past = reads (reverse c.args.self.now.contents.changes.items) in
    subst (λ (d : Directory). ChangesAt c.args.no (IfThere (Torn c.args.at (length c.args.bytes.now))) past d) (sym c.in_default.ensures.reads) (torn_at_same c.args.no c.args.at (length c.args.bytes.now) past)

pub returns-in-Err-clause-torn : goal.returns-in-Err-clause-torn
returns-in-Err-clause-torn c =
    let past = reads (reverse c.args.self.now.contents.changes.items) in
    subst (λ (l : List Change). ChangesAt c.args.no (IfThere (Torn c.args.at (length c.args.bytes.now))) past (reads (reverse l))) (sym c.in-Err.ensures.err) (torn_at_same c.args.no c.args.at (length c.args.bytes.now) past)

pub returns-in-Err-clause-crash : goal.returns-in-Err-clause-crash
returns-in-Err-clause-crash c = record {
  follows = adds_nothing _ _ _ (torn_at_same c.args.no c.args.at (length c.args.bytes.now)) (exactly_none c.args.self.now.contents.changes.items c.tear.new.self.changes.items c.in-Err.ensures.err).follows;
  shows = λ begun. absurd (false≢true (sym begun));
}

pub returns-in-Err-clause-memory : goal.returns-in-Err-clause-memory
returns-in-Err-clause-memory c = λ memory. record {
  same = ap (λ (l : List Change). reads (reverse l)) c.in-Err.ensures.err;
  crash = (exactly_none c.args.self.now.contents.changes.items c.tear.new.self.changes.items c.in-Err.ensures.err).follows;
}

pub returns-in-Err-write-clause-torn : goal.returns-in-Err-write-clause-torn
returns-in-Err-write-clause-torn c =
    let past = reads (reverse c.args.self.now.contents.changes.items) in
    subst (λ (l : List Change). ChangesAt c.args.no (IfThere (Torn c.args.at (length c.args.bytes.now))) past (reads (reverse l))) (sym c.in-Err-write.ensures.err) (torn_at_same c.args.no c.args.at (length c.args.bytes.now) past)

pub returns-in-Err-write-clause-crash : goal.returns-in-Err-write-clause-crash
returns-in-Err-write-clause-crash c = record {
  follows = adds_nothing _ _ _ (torn_at_same c.args.no c.args.at (length c.args.bytes.now)) (exactly_none c.args.self.now.contents.changes.items c.write.new.self.changes.items c.in-Err-write.ensures.err).follows;
  shows = λ begun. absurd (false≢true (sym begun));
}

pub returns-in-Err-write-clause-memory : goal.returns-in-Err-write-clause-memory
returns-in-Err-write-clause-memory c = λ memory. record {
  same = ap (λ (l : List Change). reads (reverse l)) c.in-Err-write.ensures.err;
  crash = (exactly_none c.args.self.now.contents.changes.items c.write.new.self.changes.items c.in-Err-write.ensures.err).follows;
}
