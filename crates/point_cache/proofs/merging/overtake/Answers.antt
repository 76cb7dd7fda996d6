use Rattle.std.proofs.Common.{List, take, ◌++◌, subst}
use Rattle.std.proofs.lemmas.Result.{IfOk-weaker}
use Rattle.point_model.specs.Rows.{Row}
use Rattle.point_cache.specs.Merged.{IsUnion}
use Rattle.point_cache.proofs.MergeLemmas.{union_ordered}
use Rattle.point_cache.proofs.merging.overtake.Goals as goal

pub returns-clause-union : goal.returns-clause-union
returns-clause-union c =
    IfOk-weaker c.merge_behind-2.result _ _
    (λ place union. union_ordered c.args.kept.now c.args.staged.now c.order.new.scratch.ordered.items (take place c.args.kept.now ++ c.merge_behind-2.new.merged.items) c.in_ok-order.ensures
    (subst (λ (l : List Row). IsUnion c.args.kept.now l (take place c.args.kept.now ++ c.merge_behind-2.new.merged.items)) c.as_slice.ensures.value union))
    c.merge_behind-2.ensures.union
