-- Which calls of a device in memory fail?
use Rattle.std.specs.Prelude.{ℕ, Bool, nat_lt, List}
use Rattle.std.specs.List.{list_all}

-- Every failing call has been made: the next one has the place `calls`, counted from 0.
abbrev pub none_to_come : List ℕ → ℕ → Bool
none_to_come failing calls = list_all (λ place. nat_lt place calls) failing
