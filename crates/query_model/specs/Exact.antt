-- What does a statement make of values, before it is told whether that is in its kind?
use Rattle.std.specs.Prelude.{ℤ, pos, negsuc, int_le, Bool, true, false, ◌&&◌, nat_abs}
use Rattle.std.specs.Ordering.{int_cmp}
use Rattle.tsdb_types.specs.declared.value.Kind.{Kind}
use Rattle.tsdb_types.specs.declared.value.Kind.TheVariants.{Integer, Unsigned, Boolean}
use Rattle.tsdb_types.specs.declared.value.Value.{Value}
use Rattle.tsdb_types.specs.declared.value.Value.TheVariants as value
use Rattle.query_model.specs.Conditions.{is_below}

-- a whole number that is to be a value of this kind, or a truth
pub data Exact : Type 0 where
  number : Kind → ℤ → Exact
  truth : Bool → Exact

abbrev pub exact_of : Value → Exact
exact_of (value.Int n) = number Integer n
exact_of (value.Uint n) = number Unsigned (pos n)
exact_of (value.Bool t) = truth t

-- the number is one of the kind's
abbrev pub is_in_kind : Kind → ℤ → Bool
is_in_kind Integer n = int_le (negsuc 9223372036854775807) n && int_le n (pos 9223372036854775807)
is_in_kind Unsigned n = int_le (pos 0) n && int_le n (pos 18446744073709551615)
is_in_kind Boolean n = false

abbrev pub is_value : Exact → Bool
is_value (number kind n) = is_in_kind kind n
is_value (truth t) = true

-- the value; what isn't in its kind is refused and shown by no one
abbrev pub value_of_exact : Exact → Value
value_of_exact (number Integer n) = value.Int n
value_of_exact (number Unsigned n) = value.Uint (nat_abs n)
value_of_exact (number Boolean n) = value.Int n
value_of_exact (truth t) = value.Bool t

-- the number that a value is; a truth is none and counts as 0 or 1, false below true
abbrev pub value_as_number : Value → ℤ
value_as_number (value.Int n) = n
value_as_number (value.Uint n) = pos n
value_as_number (value.Bool true) = pos 1
value_as_number (value.Bool false) = pos 0

-- the first value is below the second; both are of one kind
abbrev pub is_less : Value → Value → Bool
is_less a b = is_below (int_cmp (value_as_number a) (value_as_number b))
