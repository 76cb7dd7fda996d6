use Rattle.std.proofs.Common.{◌≡◌, length}
use Rattle.influxql_parser.specs.GrammarWords.{without_escapes}
use Rattle.influxql_parser.proofs.WordLemmas.{with_front}
use Rattle.influxql_parser.proofs.word.unescaped.Given as goal

abbrev pub invariant-loop-first : goal.invariant-loop-first
invariant-loop-first l = with_front l.text.items (without_escapes l.left) ≡ without_escapes l.raw

abbrev pub decreases-loop-first : goal.decreases-loop-first
decreases-loop-first l = length l.left
