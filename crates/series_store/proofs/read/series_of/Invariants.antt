use Rattle.std.proofs.Common.{take}
use Rattle.gate_log.specs.Damage.{bodies}
use Rattle.series_store.proofs.HoldLemmas.{Folded}
use Rattle.series_store.proofs.read.series_of.Given as goal

abbrev pub invariant-loop-record : goal.invariant-loop-record
invariant-loop-record l = Folded (bodies (take l.record-index l.records)) l.held.keys l.gate
