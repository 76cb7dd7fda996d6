use Rattle.index_file.proofs.ItemLemmas.{TakenTags}
use Rattle.index_file.proofs.take.take_tags.Given as goal

-- so many tags were taken
abbrev pub invariant-loop : goal.invariant-loop
invariant-loop l = TakenTags l.initial.rest l.last l.tags.items l.rest l.counter
