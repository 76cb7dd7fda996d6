use Rattle.std.proofs.Common.{ℕ, List, Option, ap, ◌∙◌}
use Rattle.std.specs.Prelude.{option_and_then}
use Rattle.influxql_parser.specs.CivilTimes.{digits_at}
use Rattle.influxql_parser.proofs.civil.two_behind.Goals as goal

pub returns-in-None-two_digits-clause-none : goal.returns-in-None-two_digits-clause-none
returns-in-None-two_digits-clause-none c =
    ap (λ (o : Option (List ℕ)). option_and_then (digits_at 2 0) o) c.in-Some.ensures.found ∙ c.in-None-two_digits.ensures.none 0

pub returns-in-Some-two_digits-clause-found : goal.returns-in-Some-two_digits-clause-found
returns-in-Some-two_digits-clause-found c =
    ap (λ (o : Option (List ℕ)). option_and_then (digits_at 2 0) o) c.in-Some.ensures.found ∙ c.in-Some-two_digits.ensures.found 0
