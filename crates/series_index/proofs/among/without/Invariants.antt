use Rattle.std.proofs.Common.{◌≡◌, ℕ, not, take}
use Rattle.std.specs.List.{filter}
use Rattle.series_index.specs.Matching.{has}
use Rattle.series_index.proofs.among.without.Given as goal

-- those of the ids so far
abbrev pub invariant-loop-id : goal.invariant-loop-id
invariant-loop-id l = l.left.items ≡ filter (λ (id : ℕ). not (has l.others id)) (take l.id-index l.ids)
