use Rattle.std.proofs.Common.{◌≡◌, ◌+◌, ◌-◌, ◌++◌, take, drop}
use Rattle.simple8b.specs.Unpacked.{unpacked}
use Rattle.simple8b.proofs.decoder.unpack.Given as goal

abbrev pub invariant-loop-k : goal.invariant-loop-k
invariant-loop-k g l = record {
  front : take (l.start + l.k) l.values ++ unpacked g.row.BITS (g.row.COUNT - l.k) l.rest ≡ take l.start l.initial.values ++ unpacked g.row.BITS g.row.COUNT l.word;
  behind : drop (l.start + g.row.COUNT) l.values ≡ drop (l.start + g.row.COUNT) l.initial.values;
}
