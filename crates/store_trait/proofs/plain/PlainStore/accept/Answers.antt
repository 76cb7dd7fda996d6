-- A batch is kept whole, or nothing of it.
use Rattle.std.proofs.Common.{◌∙◌, ap, sym, subst, ◌∷◌, ◌++◌, [], List}
use Rattle.point_model.specs.Acceptance.{conflict}
use Rattle.point_model.specs.Histories.{after, with_points}
use Rattle.point_model.specs.Points.{no_points}
use Rattle.point_model.specs.declared.entry.Entry.TheVariants.{Write}
use Rattle.store_trait.specs.declared.note.EntryNote.{EntryNote}
use Rattle.store_trait.specs.declared.note.EntryNote.TheVariants.{Written}
use Rattle.store_trait.specs.Notes.{entries_of}
use Rattle.store_trait.specs.Told.{Told}
use Rattle.store_trait.specs.Plain.{Fits, Holds}
use Rattle.store_trait.proofs.AcceptLemmas.{holds_more, fits_batch, accepts_more, below_last}
use Rattle.store_trait.proofs.plain.PlainStore.accept.Goals as goal

pub invariant_of-self : goal.invariant_of-self
invariant_of-self c = record { counted = c.self.invariant.counted; limit = c.self.invariant.limit; fits = c.make_room.ensures.kept _ c.self.invariant.fits }

pub invariant_of-self-in_err-reserve : goal.invariant_of-self-in_err-reserve
invariant_of-self-in_err-reserve c =
    subst (λ (ns : List EntryNote). Holds c.self.inside.client ns c.self.inside.number c.make_room.new.slots c.make_room.new.samples) (sym c.reserve.ensures.items)
    (record { counted = c.self.invariant.counted; limit = c.self.invariant.limit; fits = c.make_room.ensures.kept _ c.self.invariant.fits })

pub invariant_of-self-2 : goal.invariant_of-self-2
invariant_of-self-2 c =
    let stored = after no_points (entries_of c.self.inside.client c.self.inside.notes.items) in
    holds_more c.self.inside.client c.self.inside.number c.self.inside.notes.items c.add_note.new.notes.items c.self.inside.slots c.set_values.new.slots
    c.self.inside.samples c.make_room.new.samples (Written c.of.result)
    c.self.invariant (c.add_note.ensures ∙ ap (λ (ns : List EntryNote). ns ++ Written c.of.result ∷ []) c.reserve.ensures.items)
    (below_last c.self.inside.client c.self.inside.number c.self.inside.views c.self.inside.notes.items c.args.self.now c.self.view_is c.self.invariant.counted c.requires.number)
    (subst (λ (batch : List _). Fits c.set_values.new.slots c.make_room.new.samples (with_points stored batch)) (sym c.of.ensures)
    (fits_batch c.self.inside.slots c.make_room.new.slots c.set_values.new.slots c.self.inside.samples c.make_room.new.samples stored c.args.batch.now c.points-points.result.now
    c.self.invariant.fits c.make_room.ensures.kept c.in_ok-make_room.ensures.sampled c.in_ok-make_room.ensures.timed c.set_values.ensures
    c.points-points.ensures.points (ap (λ (t : Told). conflict (after t.start.points t.history) c.args.batch.now) c.self.view_is ∙ c.requires.accepted) c.requires.writable))

pub returns-clause-ok : goal.returns-clause-ok
returns-clause-ok c =
    accepts_more c.self.inside.client c.self.inside.number c.self.inside.views c.self.inside.notes.items c.add_note.new.notes.items (Written c.of.result)
    (Write c.args.self.now.client c.args.batch.now) c.args.self.now
    c.self.view_is c.self.invariant.counted
    (ap (λ (t : Told). Write t.client c.of.result.value) c.self.view_is ∙ ap (Write c.args.self.now.client) c.of.ensures)
    (c.add_note.ensures ∙ ap (λ (ns : List EntryNote). ns ++ Written c.of.result ∷ []) c.reserve.ensures.items) c.requires.accepted c.requires.number
