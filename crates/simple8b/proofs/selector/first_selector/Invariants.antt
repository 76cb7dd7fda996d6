use Rattle.std.proofs.Common.{◌≡◌, ◌≤◌, ◌<◌, ◌^◌, ℕ, false, length, slice_index}
use Rattle.simple8b.specs.Words.{bits_of, holds}
use Rattle.simple8b.proofs.selector.first_selector.Given as goal

abbrev pub invariant-loop-selector : goal.invariant-loop-selector
invariant-loop-selector l = record {
  before : (k : ℕ) → k < l.selector → holds k l.values ≡ false;
  fitting : (k : ℕ) → k < l.fitting → slice_index l.values k < 2 ^ bits_of l.selector;
  within : l.fitting ≤ length l.values;
}
