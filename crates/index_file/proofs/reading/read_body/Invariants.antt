use Rattle.index_file.proofs.ReadLemmas.{TakenMeasurements}
use Rattle.index_file.proofs.reading.read_body.Given as goal

-- so many measurements were read
abbrev pub invariant-loop : goal.invariant-loop
invariant-loop l = TakenMeasurements l.body l.last l.measurements.items l.rest l.counter
