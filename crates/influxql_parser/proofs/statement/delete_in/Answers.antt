use Rattle.std.proofs.Common.{ℤ, to_z, of_z, w64, ◌≡◌}
use Rattle.std.proofs.lemmas.Int.{to_z-of_z}
use Rattle.std.proofs.lemmas.Result.{IfOk-weaker}
use Rattle.influxql_parser.specs.GrammarDeletions.{IsDelete, IsOfMeasurement}
use Rattle.influxql_parser.proofs.DeletionLemmas.{delete-from, none-so}
use Rattle.influxql_parser.proofs.statement.delete_in.Goals as goal

pub returns-in-Some-clause-none : goal.returns-in-Some-clause-none
returns-in-Some-clause-none c =
    let is_now : to_z w64 (of_z w64 c.args.now) ≡ c.args.now = to_z-of_z w64 c.args.now c.ranges.now in
    IfOk-weaker c.of_measurement.result _ _
    (λ found is. none-so (IsOfMeasurement c.args.now c.in-Some.behind.now) (IsDelete c.args.now c.args.tokens.now) (delete-from c.args.now c.args.tokens.now c.in-Some.behind.now c.in-Some.ensures.found) found is)
    (simp is_now at c.of_measurement.ensures.none)
