use Rattle.std.proofs.Common.{suc, ◌∙◌}
use Rattle.influxql_parser.proofs.civil.two_digits.Goals as goal

pub returns-in-None-clause-none : goal.returns-in-None-clause-none
returns-in-None-clause-none c = λ more. c.in-None.ensures.none (suc more)

pub returns-in-None-digit_at-clause-none : goal.returns-in-None-digit_at-clause-none
returns-in-None-digit_at-clause-none c = λ more. c.in-Some.ensures.found (suc more) ∙ c.in-None-digit_at.ensures.none more

pub returns-in-Some-digit_at-clause-found : goal.returns-in-Some-digit_at-clause-found
returns-in-Some-digit_at-clause-found c = λ more. c.in-Some.ensures.found (suc more) ∙ c.in-Some-digit_at.ensures.found more
