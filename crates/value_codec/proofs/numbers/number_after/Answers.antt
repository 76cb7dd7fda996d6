use Rattle.std.proofs.Common.{ℤ, ◌∙◌, ap}
use Rattle.std.specs.Int.{w64, cast_unsigned}
use mir.Val.{SFits}
use Rattle.std.proofs.lemmas.Int.{to_z-of_z}
use Rattle.value_codec.proofs.StepLemmas.{step_taken}
use Rattle.value_codec.proofs.numbers.number_after.Goals as goal

pub returns : goal.returns
returns c =
    let signed : ℤ = c.unzigzag.result in
    let whole : SFits w64 signed = record { sfits = c.unzigzag.type_inv } in
    step_taken c.args.before c.args.step c.cast_unsigned.result signed c.ranges.before.fits c.cast_unsigned.type_inv whole c.unzigzag.ensures.found
    (c.cast_unsigned.ensures ∙ ap (cast_unsigned w64) (to_z-of_z w64 signed whole))
