-- The key is put in.
use Rattle.std.proofs.Common.{subst, List, ℕ}
use Rattle.live_points.specs.Learned.{Adds}
use Rattle.live_points.proofs.SampleLemmas.{adds_key}
use Rattle.live_points.proofs.keys.add_key.Goals as goal

pub returns-clause-adds : goal.returns-clause-adds
returns-clause-adds c =
    subst (λ (series : List ℕ). Adds (series, c.args.column.now.field) c.args.keys.now c.insert.new.self) c.in_ok-carry.ensures
    (subst (λ (field : List ℕ). Adds (c.in_ok-carry.field-0, field) c.args.keys.now c.insert.new.self) c.in_ok-carry-2.ensures
    (adds_key (c.in_ok-carry.field-0, c.in_ok-carry-2.field-0) c.args.keys.now c.insert.new.self c.in_ok-insert.ensures.updates))
