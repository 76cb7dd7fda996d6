use Rattle.std.proofs.Common.{ℤ, to_z, of_z, w64, ◌≡◌, ℕ, List, sym, ap, subst, ◌∙◌}
use Rattle.std.proofs.lemmas.Int.{to_z-of_z}
use Rattle.influxql_parser.specs.Deletions.{HasNoReading, ReadsAs, begins_deletion}
use Rattle.influxql_parser.specs.Reads.{IsReadFrom}
use Rattle.influxql_parser.proofs.StatementLemmas.{loggable}
use Rattle.influxql_parser.proofs.ShowLemmas.{none-at, some-at}
use Rattle.influxql_parser.proofs.deletion.read_deletion.Goals as goal

pub returns-in-None-clause-refused : goal.returns-in-None-clause-refused
returns-in-None-clause-refused c =
    let is_now : to_z w64 (of_z w64 c.args.now) ≡ c.args.now = to_z-of_z w64 c.args.now c.ranges.now in (
      ap (λ (t : List ℕ). begins_deletion t) (sym c.as_bytes-bytes.ensures.value) ∙ sym c.begins_deletion.ensures ∙ c.if-not-begins_deletion.false,
      subst (λ (t : List ℕ). HasNoReading (ReadsAs t c.args.now)) c.as_bytes-bytes.ensures.value
          (none-at (HasNoReading (ReadsAs c.as_bytes-bytes.result.now c.args.now)) c.in_ok-parts_in.field-0 c.in-None.is (simp is_now at c.in_ok-parts_in.ensures.none)),
    )

pub returns-in-Ok-clause-loggable : goal.returns-in-Ok-clause-loggable
returns-in-Ok-clause-loggable c =
    let is_now : to_z w64 (of_z w64 c.args.now) ≡ c.args.now = to_z-of_z w64 c.args.now c.ranges.now in
    loggable (ReadsAs c.as_bytes-bytes.result.now c.args.now) c.in-Some.parts c.in-Ok.deletion
    (some-at (IsReadFrom (ReadsAs c.as_bytes-bytes.result.now c.args.now)) c.in_ok-parts_in.field-0 c.in-Some.parts c.in-Some.is (simp is_now at c.in_ok-parts_in.ensures.found))
    c.in-Ok.ensures.found
