use Rattle.std.proofs.Common.{take}
use Rattle.gate_log.specs.Damage.{bodies}
use Rattle.manifest_log.proofs.FoldLemmas.{Folded}
use Rattle.manifest_log.proofs.read.directory_of.Given as goal

abbrev pub invariant-loop-record : goal.invariant-loop-record
invariant-loop-record l = Folded (bodies (take l.record-index l.records)) l.directory l.gate
