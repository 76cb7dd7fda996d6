-- A deletion begins as one; each other line says what it said before.
use Rattle.std.proofs.Common.{ℤ, ◌∙◌, subst, rules, FitsSigned, w64, to_z, of_z}
use Rattle.std.proofs.lemmas.Int.{to_z-of_z}
use Rattle.influxql_parser.specs.Deletions.{IsRefusedDeletion}
use Rattle.influxql_parser.specs.declared.fault.ReadFault.{ReadFault}
use Rattle.influxql_parser.specs.declared.fault.ReadFault.TheVariants.{Syntax, TimeInOr, NumberRange}
use Rattle.session_loop.proofs.ReadingLemmas.{deletion_said, refused_said, others_said}
use Rattle.session_loop.proofs.read.read_statement.Goals as goal

pub returns-in-Ok-Some-clause-means : goal.returns-in-Ok-Some-clause-means
returns-in-Ok-Some-clause-means c =
    let fits : FitsSigned w64 c.get.result = search rules in
    deletion_said c.deletions_begin.ensures c.args.line.now (to_z w64 (of_z w64 c.get.result)) c.args.moment (to_z-of_z w64 c.get.result fits ∙ c.get.ensures.value)
    c.in-Ok-Some.field-0 c.in-Ok-Some.deletion c.in-Ok-Some.field-0-is c.in-Ok-Some.ensures.found

pub returns-in-Ok-None-clause-means : goal.returns-in-Ok-None-clause-means
returns-in-Ok-None-clause-means c =
    others_said c.args.line.now c.as_bytes.result.now c.args.moment c.read_select.result c.in-Ok-None.field-0 c.as_bytes.ensures.value c.in-Ok-None.field-0-is c.in-Ok-None.ensures.none c.read_select.ensures.means

pub returns-in-Err-Syntax-clause-means : goal.returns-in-Err-Syntax-clause-means
returns-in-Err-Syntax-clause-means c =
    let fits : FitsSigned w64 c.get.result = search rules in
    refused_said c.deletions_begin.ensures c.args.line.now (to_z w64 (of_z w64 c.get.result)) c.args.moment (to_z-of_z w64 c.get.result fits ∙ c.get.ensures.value) Syntax
    (subst (λ (f : ReadFault). IsRefusedDeletion c.args.line.now (to_z w64 (of_z w64 c.get.result)) f) c.in-Err-Syntax.field-0-is c.in-Err-Syntax.ensures.refused)

pub returns-in-Err-TimeInOr-clause-means : goal.returns-in-Err-TimeInOr-clause-means
returns-in-Err-TimeInOr-clause-means c =
    let fits : FitsSigned w64 c.get.result = search rules in
    refused_said c.deletions_begin.ensures c.args.line.now (to_z w64 (of_z w64 c.get.result)) c.args.moment (to_z-of_z w64 c.get.result fits ∙ c.get.ensures.value) TimeInOr
    (subst (λ (f : ReadFault). IsRefusedDeletion c.args.line.now (to_z w64 (of_z w64 c.get.result)) f) c.in-Err-TimeInOr.field-0-is c.in-Err-TimeInOr.ensures.refused)

pub returns-in-Err-NumberRange-clause-means : goal.returns-in-Err-NumberRange-clause-means
returns-in-Err-NumberRange-clause-means c =
    let fits : FitsSigned w64 c.get.result = search rules in
    refused_said c.deletions_begin.ensures c.args.line.now (to_z w64 (of_z w64 c.get.result)) c.args.moment (to_z-of_z w64 c.get.result fits ∙ c.get.ensures.value) NumberRange
    (subst (λ (f : ReadFault). IsRefusedDeletion c.args.line.now (to_z w64 (of_z w64 c.get.result)) f) c.in-Err-NumberRange.field-0-is c.in-Err-NumberRange.ensures.refused)
