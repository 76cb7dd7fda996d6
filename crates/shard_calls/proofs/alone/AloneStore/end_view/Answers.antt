-- A view that comes back changes nothing but their count.
use Rattle.std.proofs.Common.{sym, subst, arith}
use Rattle.store_trait.specs.Calls.View.{Ends}
use Rattle.store_trait.specs.Notes.{entries_of}
use Rattle.shard_steps.specs.declared.shard.Shard.{Shard}
use Rattle.shard_calls.specs.Attempts.{entries_tried}
use Rattle.shard_calls.specs.Holds.{Holds}
use Rattle.shard_calls.specs.Told.{Seen, told_of}
use Rattle.shard_calls.proofs.StoreLemmas.{ended, holds_views}
use Rattle.shard_calls.proofs.alone.AloneStore.end_view.Goals as goal

pub invariant_of-self : goal.invariant_of-self
invariant_of-self g c =
    let one = c.end_view.ensures.views in
    let few = c.self.invariant.ready.views in
    subst (λ (s : Shard g.row.D.Denot). Holds g.D.Disk g.B.Site.is_sound g.B.Site.start g.B.Site.series g.B.Site.handed_out (entries_of c.self.inside.client c.self.inside.notes.items) (entries_tried c.self.inside.client c.self.inside.tried.items) s) (sym c.end_view.ensures.same)
    (holds_views g.D.Disk g.B.Site.is_sound g.B.Site.start g.B.Site.series g.B.Site.handed_out c.end_view.new.shard.views (entries_of c.self.inside.client c.self.inside.notes.items) (entries_tried c.self.inside.client c.self.inside.tried.items) c.self.inside.shard
    (omega (arith, one, few)) c.self.invariant)

pub returns-clause-ended : goal.returns-clause-ended
returns-clause-ended g c =
    subst (λ (s : Seen). Ends 0 s.told (told_of c.self.inside.client g.B.Site.start g.B.Site.series (entries_of c.self.inside.client c.self.inside.notes.items) (entries_tried c.self.inside.client c.self.inside.tried.items) c.end_view.new.shard)) c.self.view_is
    (subst (λ (s : Shard g.row.D.Denot). Ends 0 (told_of c.self.inside.client g.B.Site.start g.B.Site.series (entries_of c.self.inside.client c.self.inside.notes.items) (entries_tried c.self.inside.client c.self.inside.tried.items) c.self.inside.shard)
    (told_of c.self.inside.client g.B.Site.start g.B.Site.series (entries_of c.self.inside.client c.self.inside.notes.items) (entries_tried c.self.inside.client c.self.inside.tried.items) s)) (sym c.end_view.ensures.same)
    (ended g.D.Disk g.B.Site.is_sound g.B.Site.start g.B.Site.series g.B.Site.handed_out c.self.inside.client c.end_view.new.shard.views (entries_of c.self.inside.client c.self.inside.notes.items) (entries_tried c.self.inside.client c.self.inside.tried.items) c.self.inside.shard c.end_view.ensures.views))
