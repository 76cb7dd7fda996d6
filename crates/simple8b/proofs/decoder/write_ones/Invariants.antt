use Rattle.std.proofs.Common.{◌≡◌, ◌+◌, ◌++◌, take, drop, replicate}
use Rattle.simple8b.proofs.decoder.write_ones.Given as goal

abbrev pub invariant-loop-k : goal.invariant-loop-k
invariant-loop-k g l = record {
  front : take (l.start + l.k) l.values ≡ take l.start l.initial.values ++ replicate l.k 1;
  behind : drop (l.start + g.row.COUNT) l.values ≡ drop (l.start + g.row.COUNT) l.initial.values;
}
