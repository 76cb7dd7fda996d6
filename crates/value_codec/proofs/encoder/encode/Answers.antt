use Rattle.std.proofs.Common.{◌≡◌, ◌≢◌, length, sym, ◌∙◌, ap, arith}
use Rattle.tsdb_types.specs.declared.value.Kind.{Kind}
use Rattle.tsdb_types.specs.declared.value.Kind.TheVariants.{Boolean}
use Rattle.tsdb_types.specs.Values.{kind_of}
use Rattle.value_codec.specs.Steps.{coded_steps}
use Rattle.value_codec.specs.Coding.{coded_as}
use Rattle.std.proofs.lemmas.Result.{IfOk-weaker}
use Rattle.value_codec.proofs.OfKinds.{boolean_is, coded_booleans-is, coded_numbers-is, length-steps}
use Rattle.value_codec.proofs.encoder.encode.Goals as goal

pub returns-in-Bool : goal.returns-in-Bool
returns-in-Bool c = record {
  ok = λ kind alike.
      let of-kind : kind ≡ Boolean = sym (alike 0 _ c.requires.some) ∙ ap kind_of c.in-Bool.is in
      IfOk-weaker c.encode_booleans.result _ _ (λ bytes is. is ∙ sym (ap (λ (k : Kind). coded_as k c.args.values.now) of-kind ∙ coded_booleans-is c.args.values.now)) c.encode_booleans.ensures;
}

pub encode_steps-requires : goal.encode_steps-requires
encode_steps-requires c =
    let size : length c.as_slice.result.now ≡ length c.args.values.now = ap length (c.as_slice.ensures.value ∙ c.in_ok-steps.ensures) ∙ length-steps c.args.values.now in
    record { some = omega (arith, size, c.requires.some); most = omega (arith, size, c.requires.most) }

pub returns : goal.returns
returns c = record {
  ok = λ kind alike.
      let no-boolean : kind ≢ Boolean = λ is. (let found = boolean_is _ (alike 0 _ c.requires.some ∙ is) in c.in_default.not-Bool found.0 found.1) in
      IfOk-weaker c.encode_steps.result _ _
      (λ bytes is. is ∙ ap coded_steps (c.as_slice.ensures.value ∙ c.in_ok-steps.ensures) ∙ sym (coded_numbers-is kind c.args.values.now no-boolean)) c.encode_steps.ensures;
}
