use Rattle.std.proofs.Common.{◌<◌, ◌+◌, ◌-◌, List, length, None, sym, ap, ◌∙◌, subst, arith}
use Rattle.tsm_format.specs.declared.entry.Entry.{Entry}
use Rattle.tsm_format.specs.Rows.{AreEntries, size_of}
use Rattle.tsm_format.specs.Places.{StandsFor}
use Rattle.tsm_format.proofs.RowLemmas.{entries_end}
use Rattle.tsm_format.proofs.rows.row_end.Goals as goal

pub returns-in-Some : goal.returns-in-Some
returns-in-Some c last at is =
    let entries : List Entry = c.as_slice.result.now in
    let entry = c.in-Some.entry.now in
    let some : 0 < length c.as_slice.result.now = c.in-Some.ensures.item.3.0 in
    let blocks : AreEntries None at c.as_slice.result.now = subst (AreEntries None at) (sym c.as_slice.ensures) is.blocks in
    let ends = entries_end None at c.as_slice.result.now (length c.as_slice.result.now - 1) entry blocks (omega arith) c.in-Some.ensures.item.1 in
    subst (StandsFor c.end_of.result) (ends.2 ∙ ap (λ (es : List Entry). at + size_of es) c.as_slice.ensures) (c.end_of.ensures ends.0 ends.1)
