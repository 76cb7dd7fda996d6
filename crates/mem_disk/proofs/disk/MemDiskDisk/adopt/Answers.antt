use Rattle.std.proofs.Common.{List, refl, inl, ap, arith}
use Rattle.std.specs.Prelude.{reverse}
use Rattle.shard_disk.proofs.Runs.{adds_nothing}
use Rattle.shard_disk.proofs.Steps.{changes_same}
use Rattle.mem_disk.specs.declared.change.Change.{Change}
use Rattle.mem_disk.specs.History.{adopted_after, reads}
use Rattle.mem_disk.proofs.Changes.{exactly_same, exactly_none}
use Rattle.mem_disk.proofs.Results.{same_handed}
use Rattle.mem_disk.proofs.disk.MemDiskDisk.adopt.Goals as goal

pub returns-in-Err-clause-refused : goal.returns-in-Err-clause-refused
returns-in-Err-clause-refused c = record {
  same = ap (λ (l : List Change). reads (reverse l)) c.in-Err.ensures.err;
  crash = adds_nothing _ _ _ (changes_same c.args.self.now.contents.next _ (λ file. inl refl)) (exactly_none c.args.self.now.contents.changes.items c.refuse.new.self.changes.items c.in-Err.ensures.err).follows;
  skips = record { no_lower = omega (arith, c.in-Err.ensures.err_next); readers = refl; adopted = ap (λ (l : List Change). adopted_after (reverse l)) c.in-Err.ensures.err };
}

pub returns-in-Err-clause-memory : goal.returns-in-Err-clause-memory
returns-in-Err-clause-memory c = λ memory. record {
  crash = (exactly_none c.args.self.now.contents.changes.items c.refuse.new.self.changes.items c.in-Err.ensures.err).follows;
  handed_out = same_handed _ _ _ _ _ c.in-Err.ensures.err_next (ap (λ (l : List Change). adopted_after (reverse l)) c.in-Err.ensures.err);
}

pub returns-then-no-clause-refused : goal.returns-then-no-clause-refused
returns-then-no-clause-refused c = record {
  same = refl;
  crash = adds_nothing _ _ _ (changes_same c.args.self.now.contents.next _ (λ file. inl refl)) (exactly_same c.args.self.now.contents.changes.items).follows;
  skips = record { no_lower = omega arith; readers = refl; adopted = refl };
}

pub returns-then-no-clause-memory : goal.returns-then-no-clause-memory
returns-then-no-clause-memory c = λ memory. record { crash = (exactly_same c.args.self.now.contents.changes.items).follows; handed_out = refl }

pub returns-in-Err-place-clause-refused : goal.returns-in-Err-place-clause-refused
returns-in-Err-place-clause-refused c = record {
  same = ap (λ (l : List Change). reads (reverse l)) c.in-Err-place.ensures.err;
  crash = adds_nothing _ _ _ (changes_same c.args.self.now.contents.next _ (λ file. inl refl)) (exactly_none c.args.self.now.contents.changes.items c.place.new.self.changes.items c.in-Err-place.ensures.err).follows;
  skips = record { no_lower = omega (arith, c.in-Err-place.ensures.err_next); readers = refl; adopted = ap (λ (l : List Change). adopted_after (reverse l)) c.in-Err-place.ensures.err };
}

pub returns-in-Err-place-clause-memory : goal.returns-in-Err-place-clause-memory
returns-in-Err-place-clause-memory c = λ memory. record {
  crash = (exactly_none c.args.self.now.contents.changes.items c.place.new.self.changes.items c.in-Err-place.ensures.err).follows;
  handed_out = same_handed _ _ _ _ _ c.in-Err-place.ensures.err_next (ap (λ (l : List Change). adopted_after (reverse l)) c.in-Err-place.ensures.err);
}
