use Rattle.std.proofs.Common.{ℕ, ◌≡◌, subst, arith}
use Rattle.value_codec.specs.Coding.{AddsByte}
use Rattle.value_codec.proofs.bits.read_byte.Goals as goal

pub returns-clause-found : goal.returns-clause-found
returns-clause-found c =
    let whole : 8 ≡ c.args.size = omega (arith, c.requires, c.if-size-lt8.false) in
    subst (λ (n : ℕ). AddsByte c.args.byte n c.args.values.now.items c.read_whole.new.values.items) whole c.in_ok-read_whole.ensures
