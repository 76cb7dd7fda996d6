use Rattle.std.proofs.Common.{◌≡◌, ◌++◌, ◌^◌, ◌<◌, All, length}
use Rattle.simple8b.specs.Words.{words_of}
use Rattle.simple8b.proofs.encoder.encode.Given as goal

abbrev pub invariant-loop-rest : goal.invariant-loop-rest
invariant-loop-rest l = record {
  words : l.words.items ++ words_of l.rest ≡ words_of l.values;
  narrow : All (λ value. value < 2 ^ 60) l.rest;
}

abbrev pub decreases-loop-rest : goal.decreases-loop-rest
decreases-loop-rest l = length l.rest
