use Rattle.std.proofs.Common.{ℤ, to_z, of_z, w64, ◌≡◌}
use Rattle.std.proofs.lemmas.Int.{to_z-of_z}
use Rattle.influxql_parser.specs.Deletions.{HasNoReading}
use Rattle.influxql_parser.specs.GrammarDeletions.{IsDelete, IsDropMeasurement, IsDropSeries}
use Rattle.influxql_parser.proofs.DeletionLemmas.{no-statement}
use Rattle.influxql_parser.proofs.ShowLemmas.{none-at, none-of}
use Rattle.influxql_parser.proofs.statement.statement_in.Goals as goal

pub returns-in-None-clause-none : goal.returns-in-None-clause-none
returns-in-None-clause-none c =
    let is_now : to_z w64 (of_z w64 c.args.now) ≡ c.args.now = to_z-of_z w64 c.args.now c.ranges.now in
    no-statement c.args.now c.args.tokens.now
    (none-of (HasNoReading (IsDelete c.args.now c.args.tokens.now)) c.in_ok-parts.field-0 c.in_default.not-Some (simp is_now at c.in_ok-parts.ensures.none))
    (none-of (HasNoReading (IsDropSeries c.args.now c.args.tokens.now)) c.in_ok-parts-2.field-0 c.in_default-2.not-Some (simp is_now at c.in_ok-parts-2.ensures.none))
    (none-at (HasNoReading (IsDropMeasurement c.args.tokens.now)) c.in_ok-drop_measurement_in.field-0 c.in-None.is c.in_ok-drop_measurement_in.ensures.none)
