use Rattle.index_file.proofs.ItemLemmas.{TakenLists}
use Rattle.index_file.proofs.take.take_lists.Given as goal

-- so many lists were taken
abbrev pub invariant-loop : goal.invariant-loop
invariant-loop l = TakenLists l.initial.rest l.last l.lists.items l.rest l.counter
