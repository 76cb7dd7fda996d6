-- A deletion is carried out whole, or nothing of it.
use Rattle.std.proofs.Common.{◌∙◌, ap, sym, subst, ◌∷◌, ◌++◌, [], List}
use Rattle.point_model.specs.Deletions.{without}
use Rattle.point_model.specs.Histories.{after}
use Rattle.point_model.specs.Points.{no_points}
use Rattle.point_model.specs.declared.deletion.Deletion.{Deletion}
use Rattle.point_model.specs.declared.entry.Entry.TheVariants.{Delete}
use Rattle.store_trait.specs.declared.note.EntryNote.{EntryNote}
use Rattle.store_trait.specs.declared.note.EntryNote.TheVariants.{Deleted}
use Rattle.store_trait.specs.Notes.{entries_of}
use Rattle.store_trait.specs.Told.{Told}
use Rattle.store_trait.specs.Plain.{Fits}
use Rattle.store_trait.proofs.AcceptLemmas.{holds_more, accepts_more, below_last}
use Rattle.store_trait.proofs.RemovalLemmas.{removed}
use Rattle.store_trait.proofs.plain.PlainStore.remove.Goals as goal

pub invariant_of-self-2 : goal.invariant_of-self-2
invariant_of-self-2 c =
    let stored = after no_points (entries_of c.self.inside.client c.self.inside.notes.items) in
    holds_more c.self.inside.client c.self.inside.number c.self.inside.notes.items c.add_note.new.notes.items c.self.inside.slots c.take_away.new.slots
    c.self.inside.samples c.put_samples.new.samples (Deleted c.of.result)
    c.self.invariant (c.add_note.ensures ∙ ap (λ (ns : List EntryNote). ns ++ Deleted c.of.result ∷ []) c.reserve.ensures.items)
    (below_last c.self.inside.client c.self.inside.number c.self.inside.views c.self.inside.notes.items c.args.self.now c.self.view_is c.self.invariant.counted c.requires)
    (subst (λ (deletion : Deletion). Fits c.take_away.new.slots c.put_samples.new.samples (without stored deletion)) (sym c.of.ensures)
    (removed c.self.inside.slots c.take_away.new.slots c.self.inside.samples c.put_samples.new.samples stored c.args.deletion.now _
    c.self.invariant.fits c.in_ok-removal.ensures c.take_away.ensures c.put_samples.ensures))

pub returns-clause-ok : goal.returns-clause-ok
returns-clause-ok c =
    accepts_more c.self.inside.client c.self.inside.number c.self.inside.views c.self.inside.notes.items c.add_note.new.notes.items (Deleted c.of.result)
    (Delete c.args.self.now.client c.args.deletion.now) c.args.self.now
    c.self.view_is c.self.invariant.counted
    (ap (λ (t : Told). Delete t.client c.of.result.value) c.self.view_is ∙ ap (Delete c.args.self.now.client) c.of.ensures)
    (c.add_note.ensures ∙ ap (λ (ns : List EntryNote). ns ++ Deleted c.of.result ∷ []) c.reserve.ensures.items) tt c.requires
