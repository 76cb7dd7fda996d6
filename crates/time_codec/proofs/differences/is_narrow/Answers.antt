use Rattle.std.proofs.Common.{arith, ◌∙◌}
use Rattle.time_codec.proofs.TimesLemmas.{narrow_below, narrow_all}
use Rattle.time_codec.proofs.differences.is_narrow.Goals as goal

pub returns-in-None : goal.returns-in-None
returns-in-None c = narrow_all c.args.power c.args.differences.now c.requires (omega (arith, c.in-None.ensures)) (λ i. omega (arith, c.type_inv.differences i))

pub returns-in-Some : goal.returns-in-Some
returns-in-Some c = c.are_below.ensures ∙ narrow_below c.args.power c.in-Some.limit c.args.differences.now c.requires c.in-Some.ensures.1
