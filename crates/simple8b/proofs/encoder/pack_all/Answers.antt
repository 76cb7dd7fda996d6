use Rattle.std.proofs.Common.{◌≡◌, ◌*◌, ℕ, length, ap, ◌∙◌, arith}
use Rattle.std.proofs.lemmas.List.{length-take-le}
use Rattle.simple8b.proofs.Tables.{pow_le}
use Rattle.simple8b.proofs.encoder.pack_all.Goals as goal

pub returns-in-Some-clause-within : goal.returns-in-Some-clause-within
returns-in-Some-clause-within g c =
    let size : length c.in-Some.all.now ≡ g.row.COUNT = ap length c.in-Some.ensures.cases.0 ∙ length-take-le g.row.COUNT c.args.values.now (omega (arith, c.requires.whole)) in
    omega (arith, c.pack.ensures.within, pow_le (g.row.BITS * length c.in-Some.all.now) 60 (omega (arith, ap (λ (n : ℕ). g.row.BITS * n) size, c.requires.room)))
