use Rattle.std.proofs.Common.{length, ap, ◌∙◌, arith}
use Rattle.std.proofs.lemmas.List.{length-append}
use Rattle.fixed_width.specs.Fields.{bytes_of_u32, bytes_of_u64}
use Rattle.fixed_width.proofs.Fronts.{length-u32, length-u64}
use Rattle.manifest_log.proofs.ChangeLemmas.{if_none}
use Rattle.manifest_log.proofs.take.take_file.Goals as goal

pub returns-in_err-generation-clause-cut : goal.returns-in_err-generation-clause-cut
returns-in_err-generation-clause-cut c =
    let a1 = ap length c.in_ok-no.ensures.found ∙ length-append (bytes_of_u32 c.in_ok-no.no) c.in_ok-no.rest.now in
    if_none c.from_residual-in_err-generation.result (omega (arith, a1, length-u32 c.in_ok-no.no, c.in_err-generation.ensures.cut))

pub returns-in_err-sequence-clause-cut : goal.returns-in_err-sequence-clause-cut
returns-in_err-sequence-clause-cut c =
    let a1 = ap length c.in_ok-no.ensures.found ∙ length-append (bytes_of_u32 c.in_ok-no.no) c.in_ok-no.rest.now in
    let b1 = ap length c.in_ok-generation.ensures.found ∙ length-append (bytes_of_u64 c.in_ok-generation.generation) c.in_ok-generation.rest.now in
    if_none c.from_residual-in_err-sequence.result (omega (arith, a1, b1, length-u32 c.in_ok-no.no, length-u64 c.in_ok-generation.generation, c.in_err-sequence.ensures.cut))

pub returns-in_err-level-clause-cut : goal.returns-in_err-level-clause-cut
returns-in_err-level-clause-cut c =
    let a1 = ap length c.in_ok-no.ensures.found ∙ length-append (bytes_of_u32 c.in_ok-no.no) c.in_ok-no.rest.now in
    let b1 = ap length c.in_ok-generation.ensures.found ∙ length-append (bytes_of_u64 c.in_ok-generation.generation) c.in_ok-generation.rest.now in
    let c1 = ap length c.in_ok-sequence.ensures.found ∙ length-append (bytes_of_u32 c.in_ok-sequence.sequence) c.in_ok-sequence.rest.now in
    if_none c.from_residual-in_err-level.result (omega (arith, a1, b1, c1, length-u32 c.in_ok-no.no, length-u64 c.in_ok-generation.generation, length-u32 c.in_ok-sequence.sequence, ap length c.in_err-level.ensures.none))

pub returns-in_err-points-clause-cut : goal.returns-in_err-points-clause-cut
returns-in_err-points-clause-cut c =
    let a1 = ap length c.in_ok-no.ensures.found ∙ length-append (bytes_of_u32 c.in_ok-no.no) c.in_ok-no.rest.now in
    let b1 = ap length c.in_ok-generation.ensures.found ∙ length-append (bytes_of_u64 c.in_ok-generation.generation) c.in_ok-generation.rest.now in
    let c1 = ap length c.in_ok-sequence.ensures.found ∙ length-append (bytes_of_u32 c.in_ok-sequence.sequence) c.in_ok-sequence.rest.now in
    let d1 = ap length c.in_ok-level.ensures.found in
    if_none c.from_residual-in_err-points.result (omega (arith, a1, b1, c1, d1, length-u32 c.in_ok-no.no, length-u64 c.in_ok-generation.generation, length-u32 c.in_ok-sequence.sequence, c.in_err-points.ensures.cut))

pub returns-in_err-most_entries-clause-cut : goal.returns-in_err-most_entries-clause-cut
returns-in_err-most_entries-clause-cut c =
    let a1 = ap length c.in_ok-no.ensures.found ∙ length-append (bytes_of_u32 c.in_ok-no.no) c.in_ok-no.rest.now in
    let b1 = ap length c.in_ok-generation.ensures.found ∙ length-append (bytes_of_u64 c.in_ok-generation.generation) c.in_ok-generation.rest.now in
    let c1 = ap length c.in_ok-sequence.ensures.found ∙ length-append (bytes_of_u32 c.in_ok-sequence.sequence) c.in_ok-sequence.rest.now in
    let d1 = ap length c.in_ok-level.ensures.found in
    let e1 = ap length c.in_ok-points.ensures.found ∙ length-append (bytes_of_u64 c.in_ok-points.points) c.in_ok-points.rest.now in
    if_none c.from_residual-in_err-most_entries.result (omega (arith, a1, b1, c1, d1, e1, length-u32 c.in_ok-no.no, length-u64 c.in_ok-generation.generation, length-u32 c.in_ok-sequence.sequence, length-u64 c.in_ok-points.points, c.in_err-most_entries.ensures.cut))
