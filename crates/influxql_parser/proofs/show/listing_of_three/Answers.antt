use Rattle.std.proofs.Common.{[], ◌∷◌}
use Rattle.std.proofs.lemmas.Result.{IfOk-weaker}
use Rattle.influxql_parser.proofs.ShowLemmas.{no-listing, listing-found, listing-none}
use Rattle.influxql_parser.proofs.show.listing_of_three.Goals as goal

pub returns-in-None-clause-none : goal.returns-in-None-clause-none
returns-in-None-clause-none c = no-listing (c.args.first.now ∷ c.args.second.now ∷ c.args.third.now ∷ []) c.args.tokens.now c.in-None.ensures.none

pub returns-in-Some-clause-found : goal.returns-in-Some-clause-found
returns-in-Some-clause-found c =
    IfOk-weaker c.from_name.result _ _ (λ found is. listing-found (c.args.first.now ∷ c.args.second.now ∷ c.args.third.now ∷ []) c.args.tokens.now c.in-Some.behind.now found c.in-Some.ensures.found is) c.from_name.ensures.found

pub returns-in-Some-clause-none : goal.returns-in-Some-clause-none
returns-in-Some-clause-none c =
    IfOk-weaker c.from_name.result _ _ (λ found is. listing-none (c.args.first.now ∷ c.args.second.now ∷ c.args.third.now ∷ []) c.args.tokens.now c.in-Some.behind.now found c.in-Some.ensures.found is) c.from_name.ensures.none
