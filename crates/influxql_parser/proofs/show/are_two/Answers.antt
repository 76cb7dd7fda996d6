use Rattle.std.proofs.Common.{[], sym, ◌∙◌}
use Rattle.std.proofs.lemmas.Bool.{false≢true}
use Rattle.influxql_parser.proofs.ShowLemmas.{empty-iff, none≢some}
use Rattle.influxql_parser.proofs.show.are_two.Goals as goal

pub returns-in-None : goal.returns-in-None
returns-in-None c = (λ is. absurd (false≢true is), λ at. absurd (none≢some [] (sym c.in-None.ensures.none ∙ at)))

pub returns-in-Some : goal.returns-in-Some
returns-in-Some c = empty-iff _ c.in-Some.behind.now c.is_empty.result c.in-Some.ensures.found c.is_empty.ensures
