use Rattle.std.proofs.Common.{Option, Some, ℤ, List, ap, ◌∙◌}
use Rattle.influxql_parser.specs.Tokens.{Token, Sign}
use Rattle.influxql_parser.proofs.MomentLemmas.{civil-base, sign-found, sign-none, text-moment}
use Rattle.influxql_parser.proofs.moment.base_at.Goals as goal

pub returns-in-None-2-clause-none : goal.returns-in-None-2-clause-none
returns-in-None-2-clause-none c =
    civil-base c.args.now c.args.tokens.now c.in-Some.behind.now c.in-Some.first.now c.in-Text.raw.now c.in_ok-civil_in-in-Text.field-0 c.in-Some.ensures.cases.0 c.in-Text.ensures c.in_ok-civil_in-in-Text.ensures
    ∙ ap (λ (o : Option (Option ℤ)). text-moment c.in-Some.behind.now o) c.in-None-2.is

pub returns-in-Some-2-clause-found : goal.returns-in-Some-2-clause-found
returns-in-Some-2-clause-found c =
    civil-base c.args.now c.args.tokens.now c.in-Some.behind.now c.in-Some.first.now c.in-Text.raw.now c.in_ok-civil_in-in-Text.field-0 c.in-Some.ensures.cases.0 c.in-Text.ensures c.in_ok-civil_in-in-Text.ensures
    ∙ ap (λ (o : Option (Option ℤ)). text-moment c.in-Some.behind.now o) c.in-Some-2.is

pub returns-in-Sign-clause-found : goal.returns-in-Sign-clause-found
returns-in-Sign-clause-found c =
    sign-found c.args.now c.args.tokens.now c.in-Some.behind.now c.in-Some.first.now (Sign c.in-Sign.symbol) c.negative_at.result (λ cut. Some (cut.0, cut.1.now))
    c.in-Some.ensures.cases.0 c.in-Sign.ensures c.negative_at.ensures.found

pub returns-in-Sign-clause-none : goal.returns-in-Sign-clause-none
returns-in-Sign-clause-none c =
    sign-none c.args.now c.args.tokens.now c.in-Some.behind.now c.in-Some.first.now (Sign c.in-Sign.symbol) c.negative_at.result
    c.in-Some.ensures.cases.0 c.in-Sign.ensures c.negative_at.ensures.none
