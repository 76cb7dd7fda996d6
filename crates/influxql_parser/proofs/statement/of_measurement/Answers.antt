use Rattle.std.proofs.Common.{ℤ, to_z, of_z, w64, ◌≡◌, sym, ◌∙◌}
use Rattle.std.proofs.lemmas.Int.{to_z-of_z}
use Rattle.influxql_parser.specs.GrammarDeletions.{IsWhere}
use Rattle.influxql_parser.specs.Reads.{IsReadMaybe}
use Rattle.influxql_parser.proofs.DeletionLemmas.{measured-found}
use Rattle.influxql_parser.proofs.ShowLemmas.{some-at}
use Rattle.influxql_parser.proofs.statement.of_measurement.Goals as goal

pub returns-in-Some-3-clause-found : goal.returns-in-Some-3-clause-found
returns-in-Some-3-clause-found c =
    let is_now : to_z w64 (of_z w64 c.args.now) ≡ c.args.now = to_z-of_z w64 c.args.now c.ranges.now in
    measured-found c.args.now c.args.tokens.now c.in-Some.behind.now c.in-Some.named.now _ c.in-Some.ensures.cases.0 (sym c.in_ok-name_in-in-Some.ensures ∙ c.in-Some-2.is)
    (some-at (IsReadMaybe (IsWhere c.args.now c.in-Some.behind.now)) c.in_ok-where_in-in-Some-2.field-0 c.in-Some-3.condition c.in-Some-3.is (simp is_now at c.in_ok-where_in-in-Some-2.ensures.found))
