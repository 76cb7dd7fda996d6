use Rattle.std.proofs.Common.{◌≡◌, ◌^◌, ◌<◌, ◌++◌, ℕ, List, drop, sym, ap, ◌∙◌, arith, rules}
use Rattle.std.proofs.lemmas.List.{take-append-drop}
use Rattle.wal_store.proofs.TextLemmas.{if_none, no_length, cut_text, bad_text}
use Rattle.wal_store.proofs.text.take_text.Goals as goal

pub returns-in_err-len-clause-none : goal.returns-in_err-len-clause-none
returns-in_err-len-clause-none c = if_none c.from_residual.result (λ text rest ok. no_length c.args.bytes.now c.in_err-len.ensures.cut text rest)

pub returns-then-rest-len-clause-none : goal.returns-then-rest-len-clause-none
returns-then-rest-len-clause-none c =
    let fits : c.in_ok-len.len < 2 ^ 16 = search rules in
    cut_text c.args.bytes.now c.in_ok-len.rest.now c.in_ok-len.len fits c.in_ok-len.ensures.found (omega arith)

pub returns-in-Err-clause-none : goal.returns-in-Err-clause-none
returns-in-Err-clause-none c =
    let fits : c.in_ok-len.len < 2 ^ 16 = search rules in
    let split : c.in_ok-len.rest.now ≡ c.split_at.result.0.now ++ c.split_at.result.1.now =
    sym (take-append-drop c.in_ok-len.len c.in_ok-len.rest.now) ∙ ap (λ (l : List ℕ). l ++ drop c.in_ok-len.len c.in_ok-len.rest.now) (sym c.split_at.ensures.front)
    ∙ ap (λ (l : List ℕ). c.split_at.result.0.now ++ l) (sym c.split_at.ensures.back) in
    bad_text c.args.bytes.now c.in_ok-len.rest.now c.split_at.result.0.now c.split_at.result.1.now c.in_ok-len.len fits c.in_ok-len.ensures.found split c.split_at.ensures.front_len c.in-Err.ensures.cases.0
