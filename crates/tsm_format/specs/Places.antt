-- How the reader keeps a place in a file.
use Rattle.std.specs.Prelude.{◌≡◌, ℕ, ◌≤◌, ◌^◌, Option, None, Some}

-- a place of 64 bits, or one that no 64 bits hold
abbrev pub StandsFor : Option ℕ → ℕ → Type 0
StandsFor (Some kept) place = kept ≡ place
StandsFor None place = 2 ^ 64 ≤ place
