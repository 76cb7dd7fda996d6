use Rattle.tsdb_types.proofs.SpelledTagLemmas.{if-none, no-equals, no-value, tag-made}
use Rattle.tsdb_types.proofs.spelled.tag_first.Goals as goal

pub returns-in_err-behind-2-clause-none : goal.returns-in_err-behind-2-clause-none
returns-in_err-behind-2-clause-none c =
    if-none c.from_residual-in_err-behind-2.result
    (no-equals c.args.text.now c.in_ok-behind.behind.now c.in_ok-key.key.now c.in_ok-key.behind.now c.in_ok-behind.ensures.found c.in_ok-key.ensures.found c.in_err-behind-2.ensures.none)

pub returns-in_err-_value-clause-none : goal.returns-in_err-_value-clause-none
returns-in_err-_value-clause-none c =
    if-none c.from_residual-in_err-_value.result
    (no-value c.args.text.now c.in_ok-behind.behind.now c.in_ok-key.key.now c.in_ok-key.behind.now c.in_ok-behind-2.behind.now c.in_ok-behind.ensures.found c.in_ok-key.ensures.found c.in_ok-behind-2.ensures.found c.in_err-_value.ensures.none)

pub returns-clause-found : goal.returns-clause-found
returns-clause-found c =
    tag-made c.args.text.now c.in_ok-behind.behind.now c.in_ok-key.key.now c.in_ok-key.behind.now c.in_ok-behind-2.behind.now c.in_ok-_value._value.now c.in_ok-_value.rest.now
    c.in_ok-behind.ensures.found c.in_ok-key.ensures.found c.in_ok-behind-2.ensures.found c.in_ok-_value.ensures.found
