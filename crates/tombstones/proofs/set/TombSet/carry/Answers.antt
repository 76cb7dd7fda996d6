use Rattle.std.proofs.Common.{◌∙◌}
use Rattle.tombstones.proofs.KeptLemmas.{copy_tombs, copy_ascends, copy_rows}
use Rattle.tombstones.proofs.set.TombSet.carry.Goals as goal

pub invariant_of-result : goal.invariant_of-result
invariant_of-result c =
    let rows = c.self.inside.rows.entries in
    let copy = c.in_ok-clone.field-0.entries in
    let is = c.in_ok-clone.ensures.cases in
    record { ascending = copy_ascends rows copy is c.self.invariant.ascending; each = copy_rows rows copy is c.self.invariant.each }

pub returns : goal.returns
returns c = copy_tombs c.self.inside.rows.entries c.in_ok-clone.field-0.entries c.in_ok-clone.ensures.cases ∙ c.self.view_is
