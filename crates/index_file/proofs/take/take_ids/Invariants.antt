use Rattle.index_file.proofs.ItemLemmas.{TakenIds}
use Rattle.index_file.proofs.take.take_ids.Given as goal

-- so many ids were taken
abbrev pub invariant-loop : goal.invariant-loop
invariant-loop l = TakenIds l.initial.rest l.last l.ids.items l.rest l.counter
