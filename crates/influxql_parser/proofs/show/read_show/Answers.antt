use Rattle.std.proofs.Common.{ℕ, Vec, Global, List, ap, subst, ◌∙◌}
use Rattle.std.proofs.lemmas.Result.{IfOk-weaker}
use Rattle.influxql_parser.specs.Tokens.{Token, AreTokens}
use Rattle.influxql_parser.specs.GrammarWords.{without_semicolon}
use Rattle.influxql_parser.proofs.ShowLemmas.{none-at, some-at, text-found, text-none, uncut}
use Rattle.influxql_parser.proofs.show.read_show.Goals as goal

pub returns-in-None-clause-none : goal.returns-in-None-clause-none
returns-in-None-clause-none c =
    uncut c.args.text.now
    (subst (λ (t : List ℕ). (tokens : List Token) → AreTokens tokens t → ⊥) c.as_bytes.ensures.value
    (none-at ((tokens : List Token) → AreTokens tokens c.as_bytes.result.now → ⊥) c.in_ok-tokens_of.field-0 c.in-None.is c.in_ok-tokens_of.ensures.none))

pub returns-in-Some-clause-found : goal.returns-in-Some-clause-found
returns-in-Some-clause-found c =
    let at = some-at (λ (v : Vec Token Global). AreTokens v.items c.as_bytes.result.now) c.in_ok-tokens_of.field-0 c.in-Some.tokens c.in-Some.is c.in_ok-tokens_of.ensures.found in
    let cut = subst (λ (t : List ℕ). AreTokens c.in-Some.tokens.items t) c.as_bytes.ensures.value at in
    let body = c.without_semicolon.ensures ∙ ap (λ (ts : List Token). without_semicolon ts) c.deref.ensures.value in
    IfOk-weaker c.show_in.result _ _ (λ found is. text-found c.args.text.now c.in-Some.tokens.items c.without_semicolon.result.now found cut body is) c.show_in.ensures.found

pub returns-in-Some-clause-none : goal.returns-in-Some-clause-none
returns-in-Some-clause-none c =
    let at = some-at (λ (v : Vec Token Global). AreTokens v.items c.as_bytes.result.now) c.in_ok-tokens_of.field-0 c.in-Some.tokens c.in-Some.is c.in_ok-tokens_of.ensures.found in
    let cut = subst (λ (t : List ℕ). AreTokens c.in-Some.tokens.items t) c.as_bytes.ensures.value at in
    let body = c.without_semicolon.ensures ∙ ap (λ (ts : List Token). without_semicolon ts) c.deref.ensures.value in
    IfOk-weaker c.show_in.result _ _ (λ found is. text-none c.args.text.now c.in-Some.tokens.items c.without_semicolon.result.now found cut body is) c.show_in.ensures.none
