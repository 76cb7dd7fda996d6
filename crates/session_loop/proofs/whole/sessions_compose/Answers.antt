-- By the places of each session.
use Rattle.session_loop.proofs.ComposedLemmas.{composed}
use Rattle.session_loop.proofs.whole.sessions_compose.Goals as goal

pub returns : goal.returns
returns c = composed
