use Rattle.std.proofs.Common.{◌∷◌, ◌++◌, [], sym, ap, ◌∙◌}
use Rattle.index_lists.specs.declared.change.IndexChange.{IndexChange}
use Rattle.series_index.proofs.StagingLemmas.{keep_change, put_change}
use Rattle.series_index.proofs.staging.commit_one.Goals as goal

pub returns-then-pairs-had-clause-pending : goal.returns-then-pairs-had-clause-pending
returns-then-pairs-had-clause-pending c pairs holds agree =
    c.push_within.ensures.items ∙ ap (λ (x : IndexChange). c.args.pending.now.items ++ x ∷ []) c.commit-change.ensures.change
    ∙ put_change c.args.one.change pairs c.args.pending.now.items c.pairs-had.result c.pairs.result (c.pairs-had.ensures ∙ holds.all) (c.pairs.ensures ∙ (c.commit-change.ensures.holds pairs holds agree).all)
    (λ same. c.if-pairs-had.true (sym same))

pub returns-else-pairs-had-clause-pending : goal.returns-else-pairs-had-clause-pending
returns-else-pairs-had-clause-pending c pairs holds agree =
    keep_change c.args.one.change pairs c.args.pending.now.items c.pairs-had.result c.pairs.result (c.pairs-had.ensures ∙ holds.all) (c.pairs.ensures ∙ (c.commit-change.ensures.holds pairs holds agree).all)
    (sym c.if-pairs-had.false)
