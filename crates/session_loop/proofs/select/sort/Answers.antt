-- By the sort's clause, at the time and the key.
use Rattle.std.proofs.Common.{rules}
use Rattle.std.proofs.lemmas.List.Sorted.{answers_always}
use Rattle.session_loop.specs.declared.select.Found.{Found}
use Rattle.session_loop.proofs.select.sort.Goals as goal

pub returns-clause-sorted : goal.returns-clause-sorted
returns-clause-sorted c = c.sort_unstable_by_key.ensures.sorted (λ (x : Found). (x.time, x.key)) (answers_always _ _ _ (λ f a r g h. search rules))
