-- Which bytes stand for a list of values of one kind.
use Rattle.std.specs.Prelude.{◌≡◌, ℕ, ◌≤◌, Bool, false, List, length, map, All, ◌++◌}
use Rattle.std.specs.Int.{w64, cast_unsigned}
use Rattle.std.specs.Prelude.{FitsSigned, ◌<◌, ◌^◌}
use Rattle.tsdb_types.specs.declared.value.Kind.{Kind}
use Rattle.tsdb_types.specs.declared.value.Kind.TheVariants.{Integer, Unsigned, Boolean}
use Rattle.tsdb_types.specs.declared.value.Value.{Value}
use Rattle.tsdb_types.specs.declared.value.Value.TheVariants.{Int, Uint, Bool as Truth}
use Rattle.tsdb_types.specs.Values.{kind_of}
use Rattle.value_codec.specs.Steps.{steps_from, coded_steps}
use Rattle.value_codec.specs.Booleans.{byte_of, coded_booleans}

-- the unsigned number with the bits of a number; a Boolean is none
abbrev pub number_of : Value → ℕ
number_of (Int number) = cast_unsigned w64 number
number_of (Uint number) = number
number_of (Truth truth) = 0

-- whether it is the Boolean that is true
abbrev pub truth_of : Value → Bool
truth_of (Int number) = false
truth_of (Uint number) = false
truth_of (Truth truth) = truth

-- the bytes of values of a kind
unfoldable pub coded_as : Kind → List Value → List ℕ
coded_as Integer values = coded_steps (steps_from 0 (map number_of values))
coded_as Unsigned values = coded_steps (steps_from 0 (map number_of values))
coded_as Boolean values = coded_booleans (map truth_of values)

-- values of this kind alone
abbrev pub AreOf : Kind → List Value → Type 0
AreOf kind values = All (λ value. kind_of value ≡ kind) values

-- these are 1 to 1,000 values of the kind, so many, with these bytes
pub record IsSpelled (kind : Kind) (n : ℕ) (bytes : List ℕ) (values : List Value) : Type 0 where
  pub alike : AreOf kind values
  pub size : length values ≡ n
  pub some : 1 ≤ n
  pub most : n ≤ 1000
  pub spelled : coded_as kind values ≡ bytes

-- so many Booleans were added, and they have this byte
pub record AddsByte (byte size : ℕ) (old new : List Value) : Type 0 where
  pub added : List Value
  pub after : new ≡ old ++ added
  pub count : length added ≡ size
  pub alike : AreOf Boolean added
  pub spelled : byte_of 128 (map truth_of added) ≡ byte

-- a value of 64 bits
abbrev pub IsInRange : Value → Type 0
IsInRange (Int number) = FitsSigned w64 number
IsInRange (Uint number) = number < 2 ^ 64
IsInRange (Truth truth) = Unit {0}
