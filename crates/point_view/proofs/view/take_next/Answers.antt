-- The cursor of the key takes its next point.
use Rattle.std.proofs.Common.{◌∙◌, ap, sym, refl, Some}
use Rattle.std.proofs.lemmas.Option.{slice_get-get_or}
use Rattle.point_view.proofs.view.take_next.Goals as goal

pub returns-clause-taken : goal.returns-clause-taken
returns-clause-taken c =
    record {
      rows = c.index_mut.result.now;
      rest = c.next.new.self;
      was = slice_get-get_or c.args.cursors.now.items c.args.key c.index_mut.result.now c.requires ∙ ap Some (sym c.index_mut.ensures.value);
      takes = c.next.ensures;
      others = refl;
    }
