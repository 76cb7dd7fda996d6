use Rattle.std.proofs.Common.{take}
use Rattle.index_file.specs.Contents.{AreAmong}
use Rattle.index_file.proofs.fit.are_among.Given as goal

-- the ids so far are among the others
abbrev pub invariant-loop-id : goal.invariant-loop-id
invariant-loop-id l = AreAmong l.ids (take l.id-index l.list)
