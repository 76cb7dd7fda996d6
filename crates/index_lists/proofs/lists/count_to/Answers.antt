use Rattle.std.proofs.Common.{◌+◌, ℕ, List, get_or, ap, ◌∙◌, arith}
use Rattle.index_lists.proofs.ReadyLemmas.{zeros}
use Rattle.index_lists.proofs.lists.count_to.Goals as goal

pub returns-in_ok-resize-clause-same : goal.returns-in_ok-resize-clause-same
returns-in_ok-resize-clause-same c other = ap (λ (l : List ℕ). get_or l other 0) c.in_ok-resize.ensures.items ∙ zeros c.args.counts.now.items (c.args.id + 1) _ other (let a = c.if-len-place.true in let b = c.len.ensures in let d = c.args.counts.now.ok.0 in omega (arith, a, b, d))
