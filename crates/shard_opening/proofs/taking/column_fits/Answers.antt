-- The series is held, and the key of the column is a key.
use Rattle.std.proofs.Common.{◌∙◌, not, ap, refl}
use Rattle.shard_opening.proofs.FitLemmas.{fits_none, held_at, unfit_some}
use Rattle.shard_opening.proofs.taking.column_fits.Goals as goal

pub returns-in-Some-clause-fit : goal.returns-in-Some-clause-fit
returns-in-Some-clause-fit c = λ is.
    let e = c.key_fault.ensures in
    fits_none c.args.series.now.keys c.args.column.now c.key_fault.result (c.is_none.ensures ∙ ap not is) e.none e.key_too_long e.memory
    (held_at c.args.series.now.keys c.args.column.now.series c.in-Some.field-0 ((c.in-Some.ensures.found c.in-Some.field-0).0 refl))

pub returns-in-Some-clause-unfit : goal.returns-in-Some-clause-unfit
returns-in-Some-clause-unfit c = λ is.
    let e = c.key_fault.ensures in
    unfit_some c.args.series.now.keys c.args.column.now c.key_fault.result (c.is_none.ensures ∙ ap not is) e.key_too_long e.mark_in_key e.memory
