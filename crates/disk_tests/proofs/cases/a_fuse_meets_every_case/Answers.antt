use Rattle.std.proofs.Common.{◌∙◌, ap}
use Rattle.disk_tests.proofs.cases.a_fuse_meets_every_case.Goals as goal

pub first_unmet-requires-after_bounds : goal.first_unmet-requires-after_bounds
first_unmet-requires-after_bounds g c κs n = ap (λ h. h.readers n) c.new-fuse.ensures.handed_out ∙ c.new-disk.ensures.no_reader n
