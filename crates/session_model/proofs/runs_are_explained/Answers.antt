-- The history of a run is the list of its entries.
use Rattle.session_model.proofs.HistoryLemmas.{runs_explained}
use Rattle.session_model.proofs.runs_are_explained.Goals as goal

pub returns : goal.returns
returns c = runs_explained
