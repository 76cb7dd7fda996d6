-- The room changes no point, whether there is all of it or not.
use Rattle.std.proofs.Common.{inl, refl}
use Rattle.store_trait.proofs.CommitLemmas.{prepared}
use Rattle.store_trait.proofs.room.make_room.Goals as goal

pub returns-in_err-make_slots-clause-kept : goal.returns-in_err-make_slots-clause-kept
returns-in_err-make_slots-clause-kept c = λ stored fits.
    prepared c.args.slots.now c.make_slots.new.slots c.make_slots.ensures.kept c.args.samples.now c.args.samples.now stored c.args.points.now (λ m f. inl refl) fits

pub returns-in_err-take_samples-clause-kept : goal.returns-in_err-take_samples-clause-kept
returns-in_err-take_samples-clause-kept c = λ stored fits.
    prepared c.args.slots.now c.make_slots.new.slots c.make_slots.ensures.kept c.args.samples.now c.take_samples.new.samples stored c.args.points.now c.take_samples.ensures.kept fits

pub returns-clause-kept : goal.returns-clause-kept
returns-clause-kept c = λ stored fits.
    prepared c.args.slots.now c.make_slots.new.slots c.make_slots.ensures.kept c.args.samples.now c.take_samples.new.samples stored c.args.points.now c.take_samples.ensures.kept fits
