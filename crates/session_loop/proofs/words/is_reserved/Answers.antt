-- The words that the code names are the reserved ones.
use Rattle.session_loop.proofs.words.is_reserved.Goals as goal

pub returns : goal.returns
returns c = c.is_among.ensures
