use Rattle.std.proofs.Common.{◌≡◌, ◌++◌, length, take}
use Rattle.word_codec.specs.Uvarint.{uvarint}
use Rattle.word_codec.proofs.uvarint.append.Given as goal

-- what was there, the groups that are written, and the spelling of the rest
abbrev pub invariant-loop-rest : goal.invariant-loop-rest
invariant-loop-rest l = record {
  spelled : l.out.items ++ uvarint l.rest ≡ l.initial.out.items ++ uvarint l.number;
  kept : take (length l.initial.out.items) l.out.items ≡ l.initial.out.items;
}

abbrev pub decreases-loop-rest : goal.decreases-loop-rest
decreases-loop-rest l = l.rest
