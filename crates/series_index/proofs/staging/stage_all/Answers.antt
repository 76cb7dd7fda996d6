use Rattle.std.proofs.Common.{◌≡◌, [], ◌∷◌, ◌++◌, List, length, sym, ap, ◌∙◌, arith, append_assoc}
use Rattle.std.specs.Vec.Iter.{into_iter_items}
use Rattle.index_lists.specs.declared.change.IndexChange.{IndexChange}
use Rattle.series_index.proofs.StagingLemmas.{on_err, stages_then}
use Rattle.series_index.proofs.staging.stage_all.Goals as goal

pub loop-change-preserved : goal.loop-change-preserved
loop-change-preserved c =
    let inv = c.loop-change.invariant in
    let left = into_iter_items c.next.new.self in
    let steps : into_iter_items c.loop-change.change-iterator ≡ c.in-Some.change ∷ left = c.in-Some.ensures.steps.0 in
    record {
      done = inv.done ++ c.in-Some.change ∷ [];
      stages = stages_then inv.done (c.in-Some.change ∷ []) c.args.lists.now c.loop-change.lists c.stage_one.new.lists c.args.staged.now.items c.loop-change.staged.items c.stage_one.new.staged.items inv.stages c.in_ok-stage_one.ensures.ok;
      all = append_assoc inv.done (c.in-Some.change ∷ []) left ∙ ap (λ (l : List IndexChange). inv.done ++ l) (sym steps) ∙ inv.all;
      len = omega (arith, inv.len, ap length steps, c.in-Some.ensures.steps.1);
    }

pub returns-in_err-stage_one-clause-err : goal.returns-in_err-stage_one-clause-err
returns-in_err-stage_one-clause-err c =
    let inv = c.loop-change.invariant in
    on_err c.from_residual.result
    (inv.done ++ [], stages_then inv.done [] c.args.lists.now c.loop-change.lists c.stage_one.new.lists c.args.staged.now.items c.loop-change.staged.items c.stage_one.new.staged.items inv.stages c.in_err-stage_one.ensures.err)
