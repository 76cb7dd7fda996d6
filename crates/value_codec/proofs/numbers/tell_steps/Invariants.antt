use Rattle.std.proofs.Common.{◌≡◌, ◌++◌, take, drop, map}
use Rattle.value_codec.specs.Steps.{steps_from}
use Rattle.value_codec.specs.Coding.{number_of}
use Rattle.value_codec.proofs.numbers.tell_steps.Given as goal

abbrev pub invariant-loop-k : goal.invariant-loop-k
invariant-loop-k l = take l.k l.steps ++ steps_from l.before (map number_of (drop l.k l.values)) ≡ steps_from 0 (map number_of l.values)
