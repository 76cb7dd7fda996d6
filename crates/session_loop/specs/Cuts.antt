-- Where is a text cut at a byte?
use Rattle.std.specs.Prelude.{◌≡◌, ℕ, List, ◌∷◌, ◌++◌}
use Rattle.session_model.specs.Readable.{Lacks}

-- the parts stand round the first such byte
pub record CutsAt (byte : ℕ) (text front back : List ℕ) : Type 0 where
  pub whole : text ≡ front ++ byte ∷ back
  pub first : Lacks byte front
