use Rattle.std.proofs.Common.{◌∷◌, ◌^◌, ◌<◌, ℕ, ap, ◌∙◌, rules}
use Rattle.wal_store.proofs.TextLemmas.{if_none}
use Rattle.wal_store.proofs.PointLemmas.{short_value, no_truth}
use Rattle.wal_store.proofs.point.take_value.Goals as goal

pub returns-in_err-number-in-1-clause-none : goal.returns-in_err-number-in-1-clause-none
returns-in_err-number-in-1-clause-none c = if_none c.from_residual.result (λ value rest ok. short_value c.args.bytes.now c.in-Some.number.now c.in-Some.kind c.in-Some.ensures.found c.in_err-number-in-1.ensures.cut value rest)

pub returns-in_err-bits-in-2-clause-none : goal.returns-in_err-bits-in-2-clause-none
returns-in_err-bits-in-2-clause-none c = if_none c.from_residual-in_err-bits-in-2.result (λ value rest ok. short_value c.args.bytes.now c.in-Some.number.now c.in-Some.kind c.in-Some.ensures.found c.in_err-bits-in-2.ensures.cut value rest)

pub returns-in_err-number-in-4-clause-none : goal.returns-in_err-number-in-4-clause-none
returns-in_err-number-in-4-clause-none c = if_none c.from_residual-in_err-number-in-4.result (λ value rest ok. short_value c.args.bytes.now c.in-Some.number.now c.in-Some.kind c.in-Some.ensures.found c.in_err-number-in-4.ensures.cut value rest)

pub returns-in_default-bits-clause-none : goal.returns-in_default-bits-clause-none
returns-in_default-bits-clause-none c =
    let fits : c.in_ok-bits-in-2.bits < 2 ^ 64 = search rules in
    λ value rest ok. no_truth c.args.bytes.now c.in-Some.number.now c.in_ok-bits-in-2.rest.now c.in_ok-bits-in-2.bits (c.in-Some.ensures.found ∙ ap (λ (k : ℕ). k ∷ c.in-Some.number.now) c.in-2.is) fits c.in_ok-bits-in-2.ensures.found
    (λ is. search (rules, is)) (λ is. search (rules, is)) value rest
