use Rattle.std.proofs.Common.{length, ap, arith}
use Rattle.simple8b.proofs.Backward.{said, says_most}
use Rattle.simple8b.proofs.decoder.decode.Goals as goal

pub returns-then-n-saturating_mul-clause-bad_words : goal.returns-then-n-saturating_mul-clause-bad_words
returns-then-n-saturating_mul-clause-bad_words c = λ _ values narrow size spelled.
    omega (
      arith,
      size,
      ap length ((said values c.args.words.now narrow spelled).0),
      says_most c.args.words.now (λ k. (c.type_inv.words k).fits),
      c.ranges.n.fits,
      c.saturating_mul.ensures,
      c.if-n-saturating_mul.true,
    )
