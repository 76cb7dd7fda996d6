use Rattle.std.proofs.Common.{◌≡◌, sym, ◌∙◌}
use Rattle.shard_disk.specs.Stage.{Open, Refused}
use Rattle.file_tests.proofs.reading.fill.Goals as goal

pub finish-requires : goal.finish-requires
finish-requires g c = λ refused. let both : Open ≡ Refused = sym c.in_ok-append.ensures.open ∙ refused in cc
