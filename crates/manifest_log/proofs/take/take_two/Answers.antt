use Rattle.std.proofs.Common.{length, ap, ◌∙◌, arith}
use Rattle.std.proofs.lemmas.List.{length-append}
use Rattle.fixed_width.specs.Fields.{bytes_of_u32}
use Rattle.fixed_width.proofs.Fronts.{length-u32}
use Rattle.manifest_log.proofs.ChangeLemmas.{if_none}
use Rattle.manifest_log.proofs.take.take_two.Goals as goal

pub returns-in_err-second-clause-cut : goal.returns-in_err-second-clause-cut
returns-in_err-second-clause-cut c =
    let a = ap length c.in_ok-first.ensures.found ∙ length-append (bytes_of_u32 c.in_ok-first.first) c.in_ok-first.rest.now in
    if_none c.from_residual-in_err-second.result (omega (arith, a, length-u32 c.in_ok-first.first, c.in_err-second.ensures.cut))
