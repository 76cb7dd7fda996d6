use Rattle.std.proofs.Common.{◌==◌, ◌∙◌, ℕ, List, not, filter, ap, rules, of_calls}
use Rattle.manifest_log.proofs.ApplyLemmas.{kept_by}
use Rattle.manifest_log.proofs.directory.Segments.forget.Goals as goal

pub returns-clause-left : goal.returns-clause-left
returns-clause-left c =
    kept_by (λ (s : ℕ). not (s == c.args.no)) _ _ (λ x b q k. search (rules, of_calls)) _ _ c.retain.ensures.filtered ∙ ap (λ (l : List ℕ). filter (λ (s : ℕ). not (s == c.args.no)) l) c.self.view_is
