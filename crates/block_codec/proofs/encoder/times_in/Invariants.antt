use Rattle.std.proofs.Common.{◌≡◌, take}
use Rattle.block_codec.specs.Blocks.{times_of}
use Rattle.block_codec.proofs.encoder.times_in.Given as goal

abbrev pub invariant-loop-time : goal.invariant-loop-time
invariant-loop-time l = l.times.items ≡ times_of (take l.time-index l.points)
