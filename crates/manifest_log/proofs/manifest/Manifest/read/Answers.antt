use Rattle.manifest_log.proofs.LookLemmas.{same_then}
use Rattle.manifest_log.proofs.manifest.Manifest.read.Goals as goal

pub returns-in-Manifest-clause-crash : goal.returns-in-Manifest-clause-crash
returns-in-Manifest-clause-crash g c = same_then _ _ _ c.look.ensures.crash c.read_file.ensures.crash
