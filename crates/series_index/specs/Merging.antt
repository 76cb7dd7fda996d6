-- What is left of a list behind an id that it may begin with?
use Rattle.std.specs.Prelude.{ℕ, List, [], ◌∷◌, nat_eq, if◌then◌else◌}

abbrev pub behind_id : ℕ → List ℕ → List ℕ
behind_id id [] = []
behind_id id (first ∷ rest) = if nat_eq first id then rest else first ∷ rest
