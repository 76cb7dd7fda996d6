use Rattle.std.proofs.Common.{◌∙◌, sym, refl, get_or}
use Rattle.std.proofs.lemmas.Bool.{false≢true}
use Rattle.manifest_log.proofs.SoundLemmas.{ascended_none, ascended_one, all_ascend, met_again, met_last, other_last}
use Rattle.manifest_log.proofs.sound.ascend.Goals as goal

pub loop-number-init : goal.loop-number-init
loop-number-init c = ascended_none c.args.sorted.now

pub loop-number-preserved : goal.loop-number-preserved
loop-number-preserved c =
    let number = get_or c.args.sorted.now c.loop-number.number-index 0 in
    ascended_one c.args.sorted.now c.loop-number.number-index c.loop-number.last number c.requires c.loop-number-test.true c.loop-number.invariant refl
    (other_last c.loop-number.last number (sym c.eq.ensures ∙ c.if-eq.false))

pub returns-then-eq : goal.returns-then-eq
returns-then-eq c =
    let number = get_or c.args.sorted.now c.loop-number.number-index 0 in (
      λ is. absurd (false≢true is),
      λ once. absurd (met_again c.args.sorted.now c.loop-number.number-index c.loop-number.last number c.loop-number-test.true c.loop-number.invariant refl (met_last c.loop-number.last number (sym c.eq.ensures ∙ c.if-eq.true)) once),
    )

pub returns : goal.returns
returns c = (λ is. all_ascend c.args.sorted.now c.loop-number.number-index c.loop-number.last c.loop-number-test.false c.loop-number.invariant, λ once. refl)
