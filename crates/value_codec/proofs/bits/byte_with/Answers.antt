use Rattle.std.proofs.Common.{◌≡◌, ◌≤◌, Bool, true, false, cond, ℕ, refl, ap, ◌∙◌, arith}
use mir.Val.{bool_byte}
use Rattle.value_codec.proofs.DoublingLemmas.{unit_next, bits_within, read_more, read_all}
use Rattle.value_codec.proofs.bits.byte_with.Goals as goal

one_of : (truth : Bool) → bool_byte truth ≡ cond truth 1 0
one_of true = refl
one_of false = refl

one_most : (truth : Bool) (one : ℕ) → one ≡ cond truth 1 0 → one ≤ 1
one_most true one is = omega (arith, is)
one_most false one is = omega (arith, is)

pub overflow_mul-bits : goal.overflow_mul-bits
overflow_mul-bits c =
    let at = c.loop-value in
    let within = bits_within at.bits at.unit _ at.value-index _ (omega (arith, c.loop-value-test.true, c.requires)) at.invariant.unit_is at.invariant.read in
    omega (arith, within.1)

pub overflow_add-bits : goal.overflow_add-bits
overflow_add-bits c =
    let at = c.loop-value in
    let within = bits_within at.bits at.unit _ at.value-index _ (omega (arith, c.loop-value-test.true, c.requires)) at.invariant.unit_is at.invariant.read in
    omega (arith, within.1, one_most c.is_true.result _ (one_of c.is_true.result))

pub overflow_mul-result : goal.overflow_mul-result
overflow_mul-result c =
    let at = c.loop-value in
    let within = bits_within at.bits at.unit _ at.value-index _ (omega (arith, at.auto.value-index-end, c.requires)) at.invariant.unit_is at.invariant.read in
    omega (arith, within.0)

pub overflow_cast-result : goal.overflow_cast-result
overflow_cast-result c =
    let at = c.loop-value in
    let within = bits_within at.bits at.unit _ at.value-index _ (omega (arith, at.auto.value-index-end, c.requires)) at.invariant.unit_is at.invariant.read in
    omega (arith, within.0)

pub loop-value-preserved : goal.loop-value-preserved
loop-value-preserved c =
    let at = c.loop-value in
    let one = one_of c.is_true.result ∙ ap (λ (t : Bool). cond t 1 0) c.is_true.ensures in
    record {
      read = read_more c.args.values.now at.value-index at.bits at.unit _ _ _ c.loop-value-test.true (omega (arith, c.loop-value-test.true, c.requires)) at.invariant.unit_is one at.invariant.read;
      unit_is = unit_next at.unit at.value-index at.invariant.unit_is;
    }

pub returns : goal.returns
returns c =
    let at = c.loop-value in
    read_all c.args.values.now at.value-index at.bits at.unit _ c.loop-value-test.false at.invariant.read
