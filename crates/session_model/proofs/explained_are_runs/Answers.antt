-- The answers of one client leave no place between them.
use Rattle.session_model.proofs.RunLemmas.{explained_runs}
use Rattle.session_model.proofs.explained_are_runs.Goals as goal

pub returns : goal.returns
returns c = explained_runs
