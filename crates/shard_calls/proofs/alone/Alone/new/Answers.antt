-- A store begins where its engine is.
use Rattle.std.proofs.Common.{sym, subst, List, []}
use Rattle.std.specs.declared.snapshot.Snapshot.{Snapshot}
use Rattle.store_trait.specs.Notes.{entries_of}
use Rattle.store_trait.specs.declared.note.EntryNote.{EntryNote}
use Rattle.shard_calls.specs.Attempts.{entries_tried}
use Rattle.shard_calls.specs.Holds.{Holds}
use Rattle.shard_calls.specs.declared.noting.NotedAttempt.{NotedAttempt}
use Rattle.shard_calls.proofs.StoreLemmas.{holds_none}
use Rattle.shard_calls.proofs.alone.Alone.new.Goals as goal

pub invariant_of-result : goal.invariant_of-result
invariant_of-result g c =
    subst (λ (l : List EntryNote). Holds g.D.Disk g.B.Site.is_sound g.B.Site.start g.B.Site.series g.B.Site.handed_out (entries_of c.args.client l) (entries_tried c.args.client c.new-2.result.items) c.args.shard) (sym c.new.ensures.items)
    (subst (λ (l : List (Snapshot NotedAttempt)). Holds g.D.Disk g.B.Site.is_sound g.B.Site.start g.B.Site.series g.B.Site.handed_out [] (entries_tried c.args.client l) c.args.shard) (sym c.new-2.ensures.items)
    (holds_none g.D.Disk g.B.Site.is_sound g.B.Site.start g.B.Site.series g.B.Site.handed_out c.args.shard c.requires.ready c.requires.start c.requires.series c.requires.sound c.requires.handed_out))
