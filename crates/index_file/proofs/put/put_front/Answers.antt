use Rattle.std.proofs.Common.{List, ◌++◌, ap, ◌∙◌}
use Rattle.std.proofs.lemmas.Result.{on_ok_weaker}
use Rattle.index_file.specs.declared.content.MeasurementIds.{MeasurementIds}
use Rattle.index_file.specs.Format.{counted_bytes, measurement_bytes}
use Rattle.index_file.proofs.PutLemmas.{front_put}
use Rattle.index_file.proofs.put.put_front.Goals as goal

pub returns : goal.returns
returns c =
    on_ok_weaker c.put_measurements.result (λ e. front_put c.args.out.now.items c.args.content.now c.extend_from_slice.new.self.items c.put_measurements.new.out.items
    c.in_ok-extend_from_slice.ensures.items
    (e ∙ ap (λ (l : List MeasurementIds). c.extend_from_slice.new.self.items ++ counted_bytes measurement_bytes l) c.as_slice.ensures)) c.put_measurements.ensures
