use Rattle.manifest_log.proofs.SoundLemmas.{Ascended}
use Rattle.manifest_log.proofs.sound.ascend.Given as goal

abbrev pub invariant-loop-number : goal.invariant-loop-number
invariant-loop-number l = Ascended l.sorted l.number-index l.last
