use Rattle.std.proofs.Common.{◌<◌, List, length, get_or, sym, ap, ◌∙◌, subst}
use Rattle.std.proofs.lemmas.Option.{slice_get_within}
use Rattle.tsm_format.specs.declared.row.KeyRow.{KeyRow}
use Rattle.tsm_file.specs.ReadIndex.{Index}
use Rattle.tsm_file.proofs.RowLemmas.{has_at, row_blocks_at}
use Rattle.tsm_file.proofs.index.TsmIndex.find.Goals as goal

pub returns-in-Some-clause-found : goal.returns-in-Some-clause-found
returns-in-Some-clause-found c =
    let held = ap (λ (i : Index). i.rows) c.self.view_is in
    let row = c.index.result.now in
    let found = c.in-Some.ensures.found in
    has_at c.args.self.now.rows c.args.key.now c.in-Some.k found.0 row found.1 found.2 (c.index.ensures ∙ ap (λ (l : List KeyRow). get_or l c.in-Some.k row) held)

pub returns-in-Some-clause-blocks : goal.returns-in-Some-clause-blocks
returns-in-Some-clause-blocks c =
    let held = ap (λ (i : Index). i.rows) c.self.view_is in
    let found = c.in-Some.ensures.found in
    let within = slice_get_within c.args.self.now.rows c.in-Some.k found.0 found.1 in
    row_blocks_at c.self.inside.rows.items c.in-Some.k c.index.result.now (subst (λ (l : List KeyRow). c.in-Some.k < length l) (sym held) within) c.index.ensures c.self.invariant.good
