use Rattle.std.proofs.Common.{◌+◌, ◌++◌, ◌∷◌, ℕ, List, take, drop, ap, sym, ◌∙◌, arith}
use Rattle.std.proofs.lemmas.List.{append-nil, drop_all, length-set, take_all, take_more_set}
use Rattle.time_codec.specs.Times.{differences}
use Rattle.time_codec.proofs.TimesLemmas.{between_more}
use Rattle.time_codec.proofs.differences.tell_apart.Goals as goal

pub loop-k-preserved : goal.loop-k-preserved
loop-k-preserved c =
    let at = c.loop-k in
    let gap = c.apart.result in
    let time = c.index-later-k.result in
    record {
      size = length-set at.found at.k gap ∙ at.invariant.size;
      done = ap (λ (front : List ℕ). front ++ differences (time ∷ drop (at.k + 1) c.args.later.now)) (take_more_set at.found at.k gap (omega (arith, at.invariant.size, c.loop-k-test.true)))
          ∙ between_more (take at.k at.found) c.args.later.now at.k at.before time gap _ c.loop-k-test.true c.index-later-k.is c.apart.ensures at.invariant.done;
    }

pub returns : goal.returns
returns c =
    let at = c.loop-k in
    sym (take_all at.k at.found (omega (arith, at.invariant.size, c.loop-k-test.false)))
    ∙ sym (ap (λ rest. take at.k at.found ++ differences (at.before ∷ rest)) (drop_all at.k c.args.later.now c.loop-k-test.false) ∙ append-nil (take at.k at.found))
    ∙ at.invariant.done
