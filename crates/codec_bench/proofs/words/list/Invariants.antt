use Rattle.std.proofs.Common.{◌^◌, ◌<◌, All}
use Rattle.codec_bench.proofs.words.list.Given as goal

abbrev pub invariant-loop : goal.invariant-loop
invariant-loop l = All (λ value. value < 2 ^ 60) l.values.items
