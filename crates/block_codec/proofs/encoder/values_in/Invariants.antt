use Rattle.std.proofs.Common.{◌≡◌, take, All}
use Rattle.value_codec.specs.Coding.{IsInRange}
use Rattle.block_codec.specs.Blocks.{values_of}
use Rattle.block_codec.proofs.encoder.values_in.Given as goal

abbrev pub invariant-loop-value : goal.invariant-loop-value
invariant-loop-value l = record {
  values : l.values.items ≡ values_of (take l.value-index l.points);
  range : All IsInRange l.values.items;
}
