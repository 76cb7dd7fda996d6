use Rattle.manifest_log.proofs.FollowLemmas.{lead_push}
use Rattle.manifest_log.proofs.OnceLemmas.{gated_manifest, lead_fit}
use Rattle.manifest_log.proofs.laws.edits_lead.Goals as goal

pub returns-clause-file : goal.returns-clause-file
returns-clause-file c = gated_manifest

pub returns-clause-fit : goal.returns-clause-fit
returns-clause-fit c = λ edits directory lead. lead_fit edits lead.written

pub returns-clause-more : goal.returns-clause-more
returns-clause-more c = lead_push
