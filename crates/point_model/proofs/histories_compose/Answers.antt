-- By induction on the first history.
use Rattle.point_model.proofs.HistoryLemmas.{after-append, state_after-append}
use Rattle.point_model.proofs.histories_compose.Goals as goal

pub returns : goal.returns
returns c = record { points = after-append; state = state_after-append }
