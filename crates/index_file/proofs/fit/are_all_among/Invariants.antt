use Rattle.std.proofs.Common.{take}
use Rattle.index_file.specs.Contents.{AreAllAmong}
use Rattle.index_file.proofs.fit.are_all_among.Given as goal

-- those of the lists so far are among the others
abbrev pub invariant-loop-list : goal.invariant-loop-list
invariant-loop-list l = AreAllAmong l.ids (take l.list-index l.lists)
