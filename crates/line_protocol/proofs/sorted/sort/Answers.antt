use Rattle.std.proofs.Common.{is_lt, rules}
use Rattle.std.proofs.lemmas.Cmp.{nat_list_cmp_total}
use Rattle.std.proofs.lemmas.List.Sorted.{ranks_by, answers_always}
use Rattle.tsdb_types.specs.Series.{tag_ends_at}
use Rattle.tsdb_types.specs.Spelled.{unescaped}
use Rattle.line_protocol.specs.Sorted.{part_cmp}
use Rattle.line_protocol.proofs.sorted.sort.Goals as goal

pub returns-clause-sorted : goal.returns-clause-sorted
returns-clause-sorted c =
    c.sort_unstable_by.ensures.sorted (λ part other. is_lt (part_cmp part other)) (ranks_by nat_list_cmp_total (λ part. unescaped tag_ends_at part.key.now))
    (answers_always _ _ _ (λ f a r f' k. search rules))
