use Rattle.std.proofs.Common.{sym, ◌∙◌}
use Rattle.tombstones.proofs.KeptLemmas.{none_from_no_rows, no_rows_from_none}
use Rattle.tombstones.proofs.set.TombSet.is_empty.Goals as goal

pub returns : goal.returns
returns c =
    let rows = c.self.inside.rows.entries in (
      λ is. sym c.self.view_is ∙ none_from_no_rows rows (c.is_empty.ensures.0 is),
      λ none. c.is_empty.ensures.1 (no_rows_from_none rows c.self.invariant.each (c.self.view_is ∙ none)),
    )
