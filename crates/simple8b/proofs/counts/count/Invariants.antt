use Rattle.std.proofs.Common.{◌≡◌, ◌*◌, ◌≤◌, ◌/◌, ◌^◌, take, sum_by}
use Rattle.simple8b.specs.Words.{count_of}
use Rattle.simple8b.proofs.counts.count.Given as goal

abbrev pub invariant-loop-word : goal.invariant-loop-word
invariant-loop-word l = record {
  counted : l.sum ≡ sum_by (λ word. count_of (word / 2 ^ 60)) (take l.word-index l.words);
  most : l.sum ≤ 240 * l.word-index;
}
