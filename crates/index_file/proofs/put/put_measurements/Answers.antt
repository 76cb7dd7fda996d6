use Rattle.index_file.specs.Format.{measurement_bytes}
use Rattle.index_file.proofs.PutLemmas.{counted_put}
use Rattle.index_file.proofs.put.put_measurements.Goals as goal

pub returns : goal.returns
returns c = counted_put measurement_bytes c.args.out.now.items c.args.measurements.now c.loop-measurement.measurement-index c.loop-measurement.out.items c.loop-measurement-test.false c.loop-measurement.invariant
