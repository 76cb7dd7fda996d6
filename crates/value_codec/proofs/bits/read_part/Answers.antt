use Rattle.std.proofs.Common.{◌≡◌, ℕ, Bool, ap, arith, cond, leb, subst}
use Rattle.value_codec.specs.Coding.{AddsByte}
use Rattle.std.proofs.lemmas.Bool.{leb-true, leb-false, le-leb, lt-leb}
use Rattle.value_codec.proofs.Begun.{begun_more, all_read, none_left}
use Rattle.value_codec.proofs.bits.read_part.Goals.{then-truth, else-truth}
use Rattle.value_codec.proofs.bits.read_part.Goals as goal

pub loop-at-preserved : goal.loop-at-preserved
loop-at-preserved c =
    let at = c.loop-at in
    let truth : Bool = leb at.weight at.rest in
    begun_more c.args.byte at.rest at.weight at.at c.if-truth.rest truth c.args.values.now.items at.values.items c.push.new.self.items at.invariant (omega arith) c.in_ok-push.ensures.items
    (elim c.if-truth.branch [
      | then-truth w ↦ omega (arith, w.rest-is, ap (λ (b : Bool). cond b at.weight 0) (le-leb at.weight at.rest w.if-truth.true), w.if-truth.true)
      | else-truth w ↦ omega (arith, w.rest-is, ap (λ (b : Bool). cond b at.weight 0) (lt-leb at.weight at.rest w.if-truth.false))
    ])
    (leb-true at.weight at.rest) (leb-false at.weight at.rest)

pub returns-then-rest-ne0-clause-bad_block : goal.returns-then-rest-ne0-clause-bad_block
returns-then-rest-ne0-clause-bad_block c = λ _ truths size is.
    let at = c.loop-at in
    c.if-rest-ne0.true (none_left c.args.byte at.rest at.weight at.at c.args.values.now.items at.values.items truths at.invariant (omega (arith, size, c.loop-at-test.false, at.auto.at-end)) is)

pub returns-clause-found : goal.returns-clause-found
returns-clause-found c =
    let at = c.loop-at in
    let done : at.at ≡ c.args.size = omega (arith, c.loop-at-test.false, at.auto.at-end) in
    subst (λ (n : ℕ). AddsByte c.args.byte n c.args.values.now.items at.values.items) done
    (all_read c.args.byte at.rest at.weight at.at c.args.values.now.items at.values.items at.invariant c.if-rest-ne0.false)
