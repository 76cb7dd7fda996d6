use Rattle.std.proofs.Common.{◌∙◌}
use Rattle.influxql_parser.proofs.CivilLemmas.{at-hour, at-minute, at-second, at-fraction, at-clock}
use Rattle.influxql_parser.proofs.civil.clock_at.Goals as goal

pub returns-in-None-clause-none : goal.returns-in-None-clause-none
returns-in-None-clause-none c = at-hour c.args.text.now _ (c.in-None.ensures.none 0)

pub returns-in-None-two_behind-clause-none : goal.returns-in-None-two_behind-clause-none
returns-in-None-two_behind-clause-none c = at-minute c.args.text.now _ _ (c.in-Some.ensures.found 0) c.in-None-two_behind.ensures.none

pub returns-in-None-two_behind-2-clause-none : goal.returns-in-None-two_behind-2-clause-none
returns-in-None-two_behind-2-clause-none c =
    at-second c.args.text.now _ _ _ (c.in-Some.ensures.found 0) c.in-Some-two_behind.ensures.found c.in-None-two_behind-2.ensures.none

pub returns-in-None-fraction_at-clause-none : goal.returns-in-None-fraction_at-clause-none
returns-in-None-fraction_at-clause-none c =
    at-fraction c.args.text.now _ _ _ _ (c.in-Some.ensures.found 0) c.in-Some-two_behind.ensures.found c.in-Some-two_behind-2.ensures.found c.in-None-fraction_at.ensures.none

pub returns-in-None-clock-clause-none : goal.returns-in-None-clock-clause-none
returns-in-None-clock-clause-none c =
    at-clock c.args.text.now _ _ _ _ _ (c.in-Some.ensures.found 0) c.in-Some-two_behind.ensures.found c.in-Some-two_behind-2.ensures.found c.in-Some-fraction_at.ensures.found c.in-None-clock.ensures

pub returns-in-Some-clock-clause-found : goal.returns-in-Some-clock-clause-found
returns-in-Some-clock-clause-found c =
    at-clock c.args.text.now _ _ _ _ _ (c.in-Some.ensures.found 0) c.in-Some-two_behind.ensures.found c.in-Some-two_behind-2.ensures.found c.in-Some-fraction_at.ensures.found c.in-Some-clock.ensures
