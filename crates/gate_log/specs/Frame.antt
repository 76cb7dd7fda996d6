-- What is a record that is ready to be added to a log?
use Rattle.std.specs.Prelude.{◌≡◌, ℕ, ◌-◌, ◌^◌, ◌≤◌, List, [], ◌∷◌, ◌++◌, length, take, drop}
use Rattle.gate_log.specs.Records.{framed}

-- the body of a framed record: what stands behind its length and checksum and before the gate at its end
abbrev pub body_in : List ℕ → List ℕ
body_in bytes = take (length bytes - 9) (drop 8 bytes)

-- the bytes are a framed body of at most 2 ^ 30 bytes, and a closed gate
pub record IsFrame (bytes : List ℕ) : Type 0 where
  pub bytes_are : bytes ≡ framed (body_in bytes) ++ 0 ∷ []
  pub small : length (body_in bytes) ≤ 2 ^ 30
