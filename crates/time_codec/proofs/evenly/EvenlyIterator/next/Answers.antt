use Rattle.std.proofs.Common.{arith, length, ap, rules}
use Rattle.time_codec.proofs.FollowingLemmas.{even_split, even_behind}
use Rattle.time_codec.proofs.evenly.EvenlyIterator.next.Goals as goal

pub overflow_add-self : goal.overflow_add-self
overflow_add-self c =
    let even = c.args.self.now in
    omega (arith, even_split even.left even.distance (omega arith), even.early)

pub early_moment-requires : goal.early_moment-requires
early_moment-requires c =
    let even = c.args.self.now in
    omega (arith, even_split even.left even.distance (omega arith), even.early)

pub invariant_of-self : goal.invariant_of-self
invariant_of-self c =
    let even = c.args.self.now in
    omega (arith, even_split even.left even.distance (omega arith), even.early)

pub returns-clause-steps : goal.returns-clause-steps
returns-clause-steps c =
    let even = c.args.self.now in
    even_behind even.before even.distance even.left c.early_moment.result (omega arith) c.early_moment.ensures

pub returns-clause-goes : goal.returns-clause-goes
returns-clause-goes c =
    let even = c.args.self.now in
    let shorter = ap length (even_behind even.before even.distance even.left c.early_moment.result (omega arith) c.early_moment.ensures) in search rules
