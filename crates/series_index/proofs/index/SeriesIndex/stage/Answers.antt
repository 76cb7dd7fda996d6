use Rattle.std.proofs.Common.{◌≡◌, length, ap, ◌∙◌, arith}
use Rattle.series_index.specs.Index.{Index, changes_of}
use Rattle.series_index.proofs.StagingLemmas.{forgotten}
use Rattle.series_index.proofs.index.SeriesIndex.stage.Goals as goal

pub returns-in-Err-clause-err : goal.returns-in-Err-clause-err
returns-in-Err-clause-err c =
    let made = c.in-Err.ensures.err in
    let had : c.len-had.result ≡ length c.self.inside.staged.items = c.len-had.ensures ∙ c.self.inside.staged.ok.0 in
    let same =
    forgotten made.0 c.self.inside.lists c.stage_all.new.lists c.unstage_to.new.lists c.self.inside.staged.items c.stage_all.new.staged.items c.unstage_to.new.staged.items made.1 c.unstage_to.ensures.fewer
    (λ more. let left = c.unstage_to.ensures.left (omega (arith, had, more)) in omega (arith, left, had))
    in
    ap changes_of same ∙ ap (λ (x : Index). x.staged) c.self.view_is
