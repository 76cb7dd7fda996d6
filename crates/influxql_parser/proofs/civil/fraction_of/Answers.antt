use Rattle.influxql_parser.proofs.CivilLemmas.{few-below}
use Rattle.influxql_parser.proofs.civil.fraction_of.Goals as goal

pub returns-in-None-clause-none : goal.returns-in-None-clause-none
returns-in-None-clause-none c =
    absurd (few-below c.args.text.now c.digits_and_rest.result.0.now c.digits_and_rest.ensures.front c.if-digits-gt9.false c.in-None.ensures.none)
