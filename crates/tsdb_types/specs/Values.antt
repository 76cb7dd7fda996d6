-- Which kind a value has.
use Rattle.tsdb_types.specs.declared.value.Kind.{Kind}
use Rattle.tsdb_types.specs.declared.value.Kind.TheVariants.{Integer, Unsigned, Boolean}
use Rattle.tsdb_types.specs.declared.value.Value.{Value}
use Rattle.tsdb_types.specs.declared.value.Value.TheVariants.{Int, Uint, Bool}

abbrev pub kind_of : Value → Kind
kind_of (Int number) = Integer
kind_of (Uint number) = Unsigned
kind_of (Bool truth) = Boolean
