use Rattle.std.proofs.Common.{ℤ, to_z, of_z, w64, ◌≡◌}
use Rattle.std.proofs.lemmas.Int.{to_z-of_z}
use Rattle.influxql_parser.specs.Deletions.{HasNoReading}
use Rattle.influxql_parser.specs.GrammarDeletions.{IsOfMeasurement}
use Rattle.influxql_parser.specs.Reads.{IsReadFrom}
use Rattle.influxql_parser.proofs.DeletionLemmas.{series-none, series-timed}
use Rattle.influxql_parser.proofs.ShowLemmas.{none-at, some-at}
use Rattle.influxql_parser.proofs.statement.drop_series_in.Goals as goal

pub returns-then-parts-clause-none : goal.returns-then-parts-clause-none
returns-then-parts-clause-none c =
    let is_now : to_z w64 (of_z w64 c.args.now) ≡ c.args.now = to_z-of_z w64 c.args.now c.ranges.now in
    series-timed c.args.now c.args.tokens.now c.in-Some.behind.now c.in-Some-2.parts c.in-Some.ensures.found
    (some-at (IsReadFrom (IsOfMeasurement c.args.now c.in-Some.behind.now)) c.in_ok-of_measurement-in-Some.field-0 c.in-Some-2.parts c.in-Some-2.is (simp is_now at c.in_ok-of_measurement-in-Some.ensures.found))
    c.if-parts.true

pub returns-in-None-2-clause-none : goal.returns-in-None-2-clause-none
returns-in-None-2-clause-none c =
    let is_now : to_z w64 (of_z w64 c.args.now) ≡ c.args.now = to_z-of_z w64 c.args.now c.ranges.now in
    series-none c.args.now c.args.tokens.now c.in-Some.behind.now c.in-Some.ensures.found
    (none-at (HasNoReading (IsOfMeasurement c.args.now c.in-Some.behind.now)) c.in_ok-of_measurement-in-Some.field-0 c.in-None-2.is (simp is_now at c.in_ok-of_measurement-in-Some.ensures.none))
