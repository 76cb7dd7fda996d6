use Rattle.std.proofs.Common.{◌≡◌, ℕ, List}
use Rattle.line_protocol.specs.Kinds.{Seen}

-- the same kinds at each place
pub seen-same : (seen other : Seen) → ((place : List ℕ) → seen place ≡ other place) → seen ≡ other
seen-same seen other h = λ i place. h place i
