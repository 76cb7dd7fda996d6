use Rattle.std.proofs.Common.{◌≡◌, ◌+◌, ◌++◌, length}
use Rattle.gate_log.specs.Damage.{bodies}
use Rattle.gate_log.specs.Records.{AllFit, spelled}
use Rattle.gate_log.proofs.decode.decode.Given as goal

abbrev pub invariant-loop-rest : goal.invariant-loop-rest
invariant-loop-rest l = record { fit : AllFit (bodies l.records.items); read : l.bytes ≡ spelled (bodies l.records.items) ++ l.rest; size : length (spelled (bodies l.records.items)) + length l.rest ≡ length l.bytes }

abbrev pub decreases-loop-rest : goal.decreases-loop-rest
decreases-loop-rest l = length l.rest
