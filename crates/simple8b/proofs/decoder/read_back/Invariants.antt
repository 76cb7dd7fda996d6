use Rattle.std.proofs.Common.{◌≡◌, ◌≤◌, drop, length}
use Rattle.simple8b.specs.Words.{words_of}
use Rattle.simple8b.specs.Unpacked.{values_of}
use Rattle.simple8b.proofs.decoder.read_back.Given as goal

-- what was read so far are the values of the last words, and these are the encoder's words of them
abbrev pub invariant-loop-at : goal.invariant-loop-at
invariant-loop-at l = record {
  within : l.at ≤ length l.words;
  room : l.start ≤ length l.values;
  says : drop l.start l.values ≡ values_of (drop l.at l.words);
  spelled : words_of (drop l.start l.values) ≡ drop l.at l.words;
}

abbrev pub decreases-loop-at : goal.decreases-loop-at
decreases-loop-at l = l.at
