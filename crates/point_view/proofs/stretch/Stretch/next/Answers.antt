-- The point at the one end is taken.
use Rattle.std.proofs.Common.{◌∙◌, ap, sym, get_or, List, arith}
use Rattle.point_model.specs.Rows.{Row}
use Rattle.point_view.specs.Sources.{rows_stored}
use Rattle.point_view.proofs.PlaceLemmas.{ascending_taken}
use Rattle.point_view.proofs.stretch.Stretch.next.Goals as goal

pub returns : goal.returns
returns c =
    let row = c.index-as_slice-first.result in
    let all = rows_stored c.self.inside.points in
    sym c.self.view_is
    ∙ ascending_taken c.self.inside.descending all c.self.inside.first c.self.inside.end row c.if-self-2.false (omega arith) c.self.invariant.1
    (c.index-as_slice-first.is ∙ ap (λ (l : List Row). get_or l c.self.inside.first row) c.as_slice-2.ensures)
