-- By whether the text is UTF-8.
use Rattle.session_loop.proofs.ReadingLemmas.{none_says, texts_say}
use Rattle.session_loop.proofs.read.read_text.Goals as goal

pub returns-in-Err-clause-means : goal.returns-in-Err-clause-means
returns-in-Err-clause-means c = none_says c.args.text.now c.args.moment c.in-Err.ensures.cases.0

pub returns-in-Ok-clause-means : goal.returns-in-Ok-clause-means
returns-in-Ok-clause-means c = texts_say c.args.text.now c.args.moment c.read_protocol.result c.in-Ok.ensures.cases.1 c.read_protocol.ensures.means
