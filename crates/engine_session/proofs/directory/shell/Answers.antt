use Rattle.std.proofs.Common.{refl}
use Rattle.engine_session.proofs.ShellLemmas.{opens_none, serves_directory}
use Rattle.engine_session.proofs.directory.shell.Goals as goal

pub returns-in-Ok-clause-shells : goal.returns-in-Ok-clause-shells
returns-in-Ok-clause-shells g c =
    serves_directory g.D.Disk c.args.settings c.args.disk c.in-Ok.shard c.in-Ok.ensures.first.settings_are c.in-Ok.ensures.fault c.in-Ok.ensures.answers c.in-Ok.ensures.begins c.in-Ok.ensures.settled c.in-Ok.ensures.kept _ _ _ _ c.serve-disk.ensures.serves

pub returns-in-Err-clause-shells : goal.returns-in-Err-clause-shells
returns-in-Err-clause-shells g c = (opens_none g.D.Disk c.args.disk (c.in-Err.disk, c.in-Err.fault) c.in-Err.ensures.fault c.in-Err.ensures.refused c.in-Err.ensures.answers c.in-Err.ensures.kept, refl)
