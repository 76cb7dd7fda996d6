use Rattle.std.proofs.Common.{take}
use Rattle.index_file.proofs.FitLemmas.{MarksAlso}
use Rattle.index_file.proofs.fit.mark_ids.Given as goal

-- the ids so far are marked
abbrev pub invariant-loop-id : goal.invariant-loop-id
invariant-loop-id l = MarksAlso l.ids (take l.id-index l.list) l.initial.marks.items l.marks.items
