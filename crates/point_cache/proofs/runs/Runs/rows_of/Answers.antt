use Rattle.std.proofs.Common.{sym, ap, ◌∙◌}
use Rattle.point_cache.specs.Staged.{Staging, Staged, staged_at}
use Rattle.point_cache.proofs.EntryLemmas.{staged_found, staged_or}
use Rattle.point_cache.proofs.runs.Runs.rows_of.Goals as goal

pub returns-in-Some-clause-live : goal.returns-in-Some-clause-live
returns-in-Some-clause-live c =
    let found = ap staged_or c.in-Some.ensures.value ∙ sym (staged_found c.self.inside.map.entries c.args.key.now) ∙ ap (λ (s : Staging). staged_at s.entries c.args.key.now) c.self.view_is in
    c.points.ensures.live ∙ ap (λ (s : Staged). s.live) found

pub returns-in-None-clause-live : goal.returns-in-None-clause-live
returns-in-None-clause-live c =
    let found = ap staged_or c.in-None.ensures.value ∙ sym (staged_found c.self.inside.map.entries c.args.key.now) ∙ ap (λ (s : Staging). staged_at s.entries c.args.key.now) c.self.view_is in
    ap (λ (s : Staged). s.live) found
