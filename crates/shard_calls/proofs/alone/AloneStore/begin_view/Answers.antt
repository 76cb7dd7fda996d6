-- A view changes nothing but their count.
use Rattle.std.proofs.Common.{◌+◌, false, sym, subst, arith}
use Rattle.store_trait.specs.Calls.View.{Begins}
use Rattle.store_trait.specs.Notes.{entries_of}
use Rattle.shard_steps.specs.declared.shard.Shard.{Shard}
use Rattle.shard_calls.specs.Attempts.{entries_tried}
use Rattle.shard_calls.specs.Holds.{Holds}
use Rattle.shard_calls.specs.Told.{Seen, told_of}
use Rattle.shard_calls.proofs.StoreLemmas.{begins, by_result, holds_views, if_ok}
use Rattle.shard_calls.proofs.alone.AloneStore.begin_view.Goals as goal

pub invariant_of-self : goal.invariant_of-self
invariant_of-self g c =
    let Has : Shard g.row.D.Denot → Type 0 = λ s. Holds g.D.Disk g.B.Site.is_sound g.B.Site.start g.B.Site.series g.B.Site.handed_out (entries_of c.self.inside.client c.self.inside.notes.items) (entries_tried c.self.inside.client c.self.inside.tried.items) s in
    by_result c.begin_view.result
    (λ out room. subst Has (sym out)
    (holds_views g.D.Disk g.B.Site.is_sound g.B.Site.start g.B.Site.series g.B.Site.handed_out (c.self.inside.shard.views + 1) (entries_of c.self.inside.client c.self.inside.notes.items) (entries_tried c.self.inside.client c.self.inside.tried.items) c.self.inside.shard
    (omega (arith, room)) c.self.invariant))
    (λ same. subst Has (sym same) c.self.invariant)
    c.begin_view.ensures.out c.begin_view.ensures.room c.begin_view.ensures.err

pub returns-clause-ok : goal.returns-clause-ok
returns-clause-ok g c =
    if_ok c.begin_view.result
    (λ view lends out.
    subst (λ (s : Seen). Begins c.args.need.now view 0 false s.told (told_of c.self.inside.client g.B.Site.start g.B.Site.series (entries_of c.self.inside.client c.self.inside.notes.items) (entries_tried c.self.inside.client c.self.inside.tried.items) c.begin_view.new.shard)) c.self.view_is
    (subst (λ (s : Shard g.row.D.Denot). Begins c.args.need.now view 0 false (told_of c.self.inside.client g.B.Site.start g.B.Site.series (entries_of c.self.inside.client c.self.inside.notes.items) (entries_tried c.self.inside.client c.self.inside.tried.items) c.self.inside.shard)
    (told_of c.self.inside.client g.B.Site.start g.B.Site.series (entries_of c.self.inside.client c.self.inside.notes.items) (entries_tried c.self.inside.client c.self.inside.tried.items) s)) (sym out)
    (begins g.D.Disk g.B.Site.is_sound g.B.Site.start g.B.Site.series g.B.Site.handed_out c.self.inside.client c.args.need.now view (entries_of c.self.inside.client c.self.inside.notes.items) (entries_tried c.self.inside.client c.self.inside.tried.items) c.self.inside.shard c.self.invariant lends)))
    c.begin_view.ensures.ok c.begin_view.ensures.out
