use Rattle.std.proofs.Common.{◌≡◌, ◌+◌, ◌*◌, ◌^◌, ◌<◌, drop}
use Rattle.simple8b.specs.Words.{packed}
use Rattle.simple8b.proofs.encoder.pack.Given as goal

abbrev pub invariant-loop-value : goal.invariant-loop-value
invariant-loop-value l = record {
  packed : l.word + 2 ^ l.shift * packed l.bits (drop l.value-index l.values) ≡ packed l.bits l.values;
  within : l.word < 2 ^ l.shift;
  shift : l.shift ≡ l.bits * l.value-index;
}
