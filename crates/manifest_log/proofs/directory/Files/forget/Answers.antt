use Rattle.std.proofs.Common.{◌==◌, ◌∙◌, List, not, filter, ap, rules, of_calls}
use Rattle.file_table.specs.declared.row.FileRow.{FileRow}
use Rattle.manifest_log.proofs.ApplyLemmas.{kept_by}
use Rattle.manifest_log.proofs.directory.Files.forget.Goals as goal

pub returns-clause-left : goal.returns-clause-left
returns-clause-left c =
    kept_by (λ (row : FileRow). not (row.no == c.args.no)) _ _ (λ x b q k. search (rules, of_calls)) _ _ c.retain.ensures.filtered ∙ ap (λ (l : List FileRow). filter (λ (row : FileRow). not (row.no == c.args.no)) l) c.self.view_is
