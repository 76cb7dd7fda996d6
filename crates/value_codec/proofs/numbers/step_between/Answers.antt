use Rattle.std.proofs.Common.{◌∙◌, ap, sym}
use Rattle.std.specs.Int.{w64}
use mir.Val.{SFits}
use Rattle.std.proofs.lemmas.Int.{to_z-of_z}
use Rattle.word_codec.specs.Zigzag.{zigzag_of}
use Rattle.value_codec.proofs.StepLemmas.{step_of-is}
use Rattle.value_codec.proofs.numbers.step_between.Goals as goal

pub returns : goal.returns
returns c =
    let whole : SFits w64 c.cast_signed.result = record { sfits = c.cast_signed.type_inv } in
    c.zigzag.ensures ∙ ap zigzag_of (to_z-of_z w64 c.cast_signed.result whole) ∙ ap zigzag_of c.cast_signed.ensures ∙ sym (step_of-is c.args.before c.args.number)
