use Rattle.manifest_log.proofs.OnceLemmas.{one_reading}
use Rattle.manifest_log.proofs.laws.one_reading.Goals as goal

pub returns : goal.returns
returns c = one_reading
