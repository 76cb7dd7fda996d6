use Rattle.std.proofs.Common.{◌+◌, ◌-◌, ap, ◌∙◌, ◌≡◌, arith}
use Rattle.file_table.specs.Calls.{marked}
use Rattle.file_table.proofs.PartLemmas.{marked_more}
use Rattle.file_table.proofs.parts.mark.Goals as goal

pub loop-k-preserved : goal.loop-k-preserved
loop-k-preserved c =
    let first = c.args.first in
    let k = c.loop-k.k in
    let n = k - first in
    let more = marked_more first n k c.args.busy c.args.rows.now.items c.loop-k.rows.items c.index_mut.result.now (omega (arith, c.loop-k.auto.k)) (omega (arith, c.requires, c.loop-k-test.true, c.args.rows.now.ok.0)) c.loop-k.invariant.0 c.index_mut.ensures.value in
    let same : n + 1 ≡ k + 1 - first = omega (arith, c.loop-k.auto.k) in
    (more ∙ ap (λ m. marked first m c.args.busy c.args.rows.now.items) same, c.loop-k.invariant.1, c.loop-k.invariant.2)
