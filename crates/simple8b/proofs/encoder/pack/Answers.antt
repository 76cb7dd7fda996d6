use Rattle.std.proofs.Common.{◌≡◌, ◌+◌, ◌*◌, ◌^◌, ℕ, arith, refl, ◌∙◌, ap, drop}
use Rattle.std.proofs.lemmas.List.{at_drop_all}
use Rattle.std.proofs.Math.Nat.{mul-add}
use Rattle.simple8b.specs.Words.{packed}
use Rattle.simple8b.proofs.Packing.{pack_more, room_more, packed-nil}
use Rattle.simple8b.proofs.encoder.pack.Goals as goal

pub loop-value-preserved : goal.loop-value-preserved
loop-value-preserved c =
    let at = c.loop-value in
    let more = pack_more at.word at.shift c.args.bits _ at.value-index c.args.values.now at.invariant.within (c.requires.narrow at.value-index 0 c.loop-value-test.true)
    (omega (arith, at.invariant.shift, room_more c.args.bits at.value-index _ c.loop-value-test.true c.requires.room)) c.loop-value-test.true refl at.invariant.packed in
    record { packed = more.0; within = more.1; shift = omega (arith, at.invariant.shift, mul-add c.args.bits at.value-index 1) }

pub returns-clause-value : goal.returns-clause-value
returns-clause-value c =
    let at = c.loop-value in
    let none : packed c.args.bits (drop at.value-index c.args.values.now) ≡ 0 = at_drop_all (packed c.args.bits) c.args.values.now at.value-index c.loop-value-test.false ∙ packed-nil c.args.bits in
    omega (arith, at.invariant.packed, ap (λ (n : ℕ). at.word + 2 ^ at.shift * n) none)
