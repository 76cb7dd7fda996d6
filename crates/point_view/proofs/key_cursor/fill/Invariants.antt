-- What is left of the sources is the same, and of those so far the first point is looked at.
use Rattle.std.proofs.Common.{◌≡◌, length}
use Rattle.point_view.specs.Heads.{with_heads}
use Rattle.point_view.proofs.HeadLemmas.{Looked}
use Rattle.point_view.proofs.key_cursor.fill.Given as goal

abbrev pub invariant-loop-k : goal.invariant-loop-k
invariant-loop-k l = record {
  kept : with_heads l.heads.items l.sources.items ≡ with_heads l.initial.heads.items l.initial.sources.items;
  len : length l.heads.items ≡ length l.sources.items;
  same : length l.sources.items ≡ length l.initial.sources.items;
  looked : Looked l.k l.heads.items l.sources.items;
}
