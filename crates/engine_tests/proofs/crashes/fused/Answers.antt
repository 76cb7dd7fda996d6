-- No reader of the disk is out.
use Rattle.std.proofs.Common.{ap, ◌∙◌}
use Rattle.shard_disk.specs.HandedOut.{HandedOut}
use Rattle.engine_tests.proofs.crashes.fused.Goals as goal

pub returns : goal.returns
returns c = λ n. ap (λ (h : HandedOut). h.readers n) c.new.ensures.handed_out ∙ c.requires n
