-- The series is held, or it is put behind the new ones.
use Rattle.std.proofs.Common.{ℕ, Bool, List, ap, sym, ◌∙◌, if◌then◌else◌}
use Rattle.std.specs.Str.{bytes_eq}
use Rattle.indexmap.specs.IndexSet.{insert_key}
use Rattle.series_store.proofs.ListLemmas.{none_there, there}
use Rattle.shard_steps.proofs.unheld.note.Goals as goal

pub returns-in-Some : goal.returns-in-Some
returns-in-Some c =
    sym (ap (λ (b : Bool). if b then c.args.new.now.keys else insert_key bytes_eq c.args.new.now.keys c.args.key.now)
    (there c.args.series.now.keys c.args.key.now c.in-Some.field-0 ((c.id.ensures.found c.in-Some.field-0).0 c.in-Some.is)))

pub returns-in_ok-insert-in-None : goal.returns-in_ok-insert-in-None
returns-in_ok-insert-in-None c =
    c.in_ok-insert-in-None.ensures.keys ∙ ap (λ (k : List ℕ). insert_key bytes_eq c.args.new.now.keys k) c.in_ok-carry-in-None.ensures
    ∙ sym (ap (λ (b : Bool). if b then c.args.new.now.keys else insert_key bytes_eq c.args.new.now.keys c.args.key.now)
    (none_there c.args.series.now.keys c.args.key.now c.in-None.ensures.none))
