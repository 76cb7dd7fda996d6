use Rattle.manifest_log.proofs.OnceLemmas.{one_manifest, never_wrong, one_wrong}
use Rattle.manifest_log.proofs.laws.one_manifest.Goals as goal

pub returns-clause-one : goal.returns-clause-one
returns-clause-one c = one_manifest

pub returns-clause-never_wrong : goal.returns-clause-never_wrong
returns-clause-never_wrong c = never_wrong

pub returns-clause-one_wrong : goal.returns-clause-one_wrong
returns-clause-one_wrong c = one_wrong
