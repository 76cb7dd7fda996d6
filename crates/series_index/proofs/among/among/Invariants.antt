use Rattle.std.proofs.Common.{◌≡◌, ℕ, take}
use Rattle.std.specs.List.{filter}
use Rattle.series_index.specs.Matching.{has}
use Rattle.series_index.proofs.among.among.Given as goal

-- those of the ids so far
abbrev pub invariant-loop-id : goal.invariant-loop-id
invariant-loop-id l = l.found.items ≡ filter (λ (id : ℕ). has l.others id) (take l.id-index l.ids)
