use Rattle.std.proofs.Common.{nat_eq}
use Rattle.std.specs.List.{IsDistinct}
use Rattle.std.specs.Cmp.Lexicographic.{pointwise}
use Rattle.series_store.proofs.TakeLemmas.{Taken}
use Rattle.series_store.proofs.read.hold_each.Given as goal

-- so many series were taken
abbrev pub invariant-loop : goal.invariant-loop
invariant-loop l = Taken l.initial.held.keys l.held.keys l.bytes l.rest l.counter × IsDistinct (pointwise nat_eq) l.held.keys
