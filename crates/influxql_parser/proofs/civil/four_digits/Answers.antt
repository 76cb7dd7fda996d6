use Rattle.std.proofs.Common.{◌∙◌}
use Rattle.influxql_parser.proofs.civil.four_digits.Goals as goal

pub returns-in-None-clause-none : goal.returns-in-None-clause-none
returns-in-None-clause-none c = c.in-None.ensures.none 2

pub returns-in-None-two_digits-clause-none : goal.returns-in-None-two_digits-clause-none
returns-in-None-two_digits-clause-none c = c.in-Some.ensures.found 2 ∙ c.in-None-two_digits.ensures.none 0

pub returns-in-Some-two_digits-clause-found : goal.returns-in-Some-two_digits-clause-found
returns-in-Some-two_digits-clause-found c = c.in-Some.ensures.found 2 ∙ c.in-Some-two_digits.ensures.found 0
