use Rattle.std.proofs.Common.{◌+◌, None, refl}
use Rattle.file_tests.proofs.writing.fill.Goals as goal

pub push_run-requires-clause-mark : goal.push_run-requires-clause-mark
push_run-requires-clause-mark g c κs within = (3, refl)

pub returns : goal.returns
returns g c = (0 + c.args.count, _, c.in_ok-push_run.ensures 0 None c.requires.new tt)
