-- From the replies' texts, one after another.
use Rattle.session_model.proofs.ReadableLemmas.{lists_one}
use Rattle.session_model.proofs.TranscriptLemmas.{transcripts_one, explanations_one}
use Rattle.session_model.proofs.replies_are_read_back.Goals as goal

pub returns : goal.returns
returns c = record { lists = lists_one; transcripts = transcripts_one; explanations = explanations_one c.requests_mean_one.ensures }
