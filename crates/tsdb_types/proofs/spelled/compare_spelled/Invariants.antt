use Rattle.std.proofs.Common.{◌≡◌, length}
use Rattle.std.specs.Ordering.{nat_cmp}
use Rattle.std.specs.Cmp.Lexicographic.{slice_cmp}
use Rattle.tsdb_types.specs.Series.{tag_ends_at}
use Rattle.tsdb_types.specs.Spelled.{unescaped}
use Rattle.tsdb_types.proofs.spelled.compare_spelled.Given as goal

-- what is left of both compares as the whole does
abbrev pub invariant-bytes : goal.invariant-bytes
invariant-bytes l =
    slice_cmp nat_cmp (unescaped tag_ends_at l.left) (unescaped tag_ends_at l.right) ≡ slice_cmp nat_cmp (unescaped tag_ends_at l.key) (unescaped tag_ends_at l.other)

abbrev pub decreases-bytes : goal.decreases-bytes
decreases-bytes l = length l.left
