use Rattle.std.proofs.Common.{ℕ, ◌+◌, List, [], ◌∷◌, ◌++◌, None, Some, sym, subst}
use Rattle.index_file.specs.declared.content.MeasurementIds.{MeasurementIds}
use Rattle.index_file.specs.Format.{measurement_bytes}
use Rattle.index_file.proofs.TakeLemmas.{StandsNone}
use Rattle.index_file.proofs.ReadLemmas.{MayBeNextMeasurement, TakenMeasurements, measurements_none, measurements_one, cut_here, damaged_here, place_here}
use Rattle.index_file.proofs.reading.read_body.Goals as goal

pub loop-init : goal.loop-init
loop-init c =
    subst (λ (done : List MeasurementIds). TakenMeasurements c.args.body.now None done c.new-rest.result 0) (sym c.new-measurements.ensures.items)
    (subst (λ (rest : List ℕ). TakenMeasurements c.args.body.now None [] rest 0) (sym c.new-rest.ensures) (measurements_none c.args.body.now))

pub returns-in-Err-Wrong-clause-damaged : goal.returns-in-Err-Wrong-clause-damaged
returns-in-Err-Wrong-clause-damaged c damage e =
    let none : StandsNone (MayBeNextMeasurement c.loop.last) measurement_bytes c.loop.rest = rw c.in-Err-Wrong.field-0-is at c.in-Err-Wrong.ensures in
    damaged_here c.args.file c.args.count c.args.body.now c.loop.rest c.loop.measurements.items c.place_of-at.result c.damage.result damage
    (place_here c.args.body.now c.loop.rest c.loop.last c.loop.measurements.items c.loop.counter c.loop.invariant) c.place_of-at.ensures c.damage.ensures e
    (cut_here c.args.count c.args.body.now c.loop.rest c.loop.last c.loop.measurements.items c.loop.counter c.loop.invariant c.loop-test.true none)

pub loop-preserved : goal.loop-preserved
loop-preserved c =
    let m : MeasurementIds = c.in-Ok.measurement in
    subst (λ (done : List MeasurementIds). TakenMeasurements c.args.body.now (Some c.in_ok-carry-in-Ok.field-0) done c.take_measurement.new.rest (c.loop.counter + 1)) (sym c.in_ok-push-in-Ok.ensures.items)
    (subst (λ (k : List ℕ). TakenMeasurements c.args.body.now (Some k) (c.loop.measurements.items ++ m ∷ []) c.take_measurement.new.rest (c.loop.counter + 1)) (sym c.in_ok-carry-in-Ok.ensures)
    (measurements_one c.args.body.now c.loop.rest c.take_measurement.new.rest c.loop.last c.loop.measurements.items c.loop.counter c.in-Ok.measurement c.loop.invariant c.in-Ok.ensures.0 c.in-Ok.ensures.1))
