use Rattle.std.proofs.Common.{ℤ, to_z, of_z, w64, ◌≡◌, Vec, Global, List, ap, subst, ◌∙◌}
use Rattle.std.proofs.lemmas.Int.{to_z-of_z}
use Rattle.influxql_parser.specs.Deletions.{HasNoReading}
use Rattle.influxql_parser.specs.GrammarDeletions.{IsDeletionStatement}
use Rattle.influxql_parser.specs.GrammarWords.{without_semicolon}
use Rattle.influxql_parser.specs.Tokens.{Token, AreTokens}
use Rattle.influxql_parser.proofs.DeletionLemmas.{text-none}
use Rattle.influxql_parser.proofs.ShowLemmas.{none-at, some-at}
use Rattle.influxql_parser.proofs.deletion.parts_in.Goals as goal

pub returns-in-None-2-clause-none : goal.returns-in-None-2-clause-none
returns-in-None-2-clause-none c =
    let is_now : to_z w64 (of_z w64 c.args.now) ≡ c.args.now = to_z-of_z w64 c.args.now c.ranges.now in
    let at = some-at (λ (v : Vec Token Global). AreTokens v.items c.args.text.now) c.in_ok-tokens_of.field-0 c.in-Some.tokens c.in-Some.is c.in_ok-tokens_of.ensures.found in
    let body = c.without_semicolon.ensures ∙ ap (λ (ts : List Token). without_semicolon ts) c.deref.ensures.value in
    let none = none-at (HasNoReading (IsDeletionStatement c.args.now c.without_semicolon.result.now)) c.in_ok-statement_in-in-Some.field-0 c.in-None-2.is (simp is_now at c.in_ok-statement_in-in-Some.ensures.none) in
    text-none c.args.text.now c.args.now c.in-Some.tokens.items at (subst (λ (ts : List Token). HasNoReading (IsDeletionStatement c.args.now ts)) body none)
