-- By the length of the line, and by its bytes.
use Rattle.std.proofs.Common.{ℕ, List, IfOk, arith, subst}
use Rattle.session_model.specs.Requests.{LineSays}
use Rattle.session_loop.proofs.ReadingLemmas.{long_means, none_means, read_means}
use Rattle.session_loop.proofs.read.read_line.Goals as goal

pub returns-then-line-gt-LONGEST-clause-means : goal.returns-then-line-gt-LONGEST-clause-means
returns-then-line-gt-LONGEST-clause-means c = λ text stands. long_means c.args.line.now text c.args.moment stands (omega (arith, c.if-line-gt-LONGEST.true))

pub returns-in-Err-clause-means : goal.returns-in-Err-clause-means
returns-in-Err-clause-means c = λ text stands. none_means c.args.line.now text c.args.moment stands (omega (arith, c.if-line-gt-LONGEST.false)) c.in-Err.ensures.cases.0

pub returns-in-Ok-clause-means : goal.returns-in-Ok-clause-means
returns-in-Ok-clause-means c = read_means c.args.line.now c.args.moment c.read_words.result (omega (arith, c.if-line-gt-LONGEST.false)) c.in-Ok.ensures.cases.1
    (subst (λ (t : List ℕ). IfOk c.read_words.result (LineSays t c.args.moment)) c.in-Ok.ensures.cases.0 c.read_words.ensures.means)
