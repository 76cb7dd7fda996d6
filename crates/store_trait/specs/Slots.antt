-- Where does a store in memory keep the value of a cell?
use Rattle.std.specs.Prelude.{◌≡◌, ℕ, ℤ, List, Option, IsSome}
use Rattle.std.specs.BTreeMap.{BTreeMap, get}
use Rattle.std.specs.Cmp.Lexicographic.{slice_cmp}
use Rattle.std.specs.declared.cmp.Ordering.{Ordering}
use Rattle.std.specs.Option.{option_and_then}
use Rattle.std.specs.Ordering.{nat_cmp, int_cmp}
use Rattle.tsdb_types.specs.declared.point.Cell.{Cell}
use Rattle.tsdb_types.specs.declared.value.Value.{Value}

abbrev pub text_cmp : List ℕ → List ℕ → Ordering
text_cmp = slice_cmp nat_cmp

-- the slots of one series and field, by time; a vacant one holds no value
abbrev pub Rows : Type 0
Rows = BTreeMap ℤ (Option Value)

-- the same of the fields of one series
abbrev pub Fields : Type 0
Fields = BTreeMap (List ℕ) Rows

-- the same of all series
abbrev pub Slots : Type 0
Slots = BTreeMap (List ℕ) Fields

-- the slot at a time, where there is one
abbrev pub slot_of : Rows → ℤ → Option (Option Value)
slot_of rows time = get int_cmp rows time

abbrev pub slot_in : Fields → List ℕ → ℤ → Option (Option Value)
slot_in fields field time = option_and_then (λ rows. slot_of rows time) (get text_cmp fields field)

abbrev pub slot_at : Slots → Cell → Option (Option Value)
slot_at slots cell = option_and_then (λ fields. slot_in fields cell.field cell.time) (get text_cmp slots cell.series)

-- the value in a slot; a vacant one and none at all are alike
abbrev pub held : Option (Option Value) → Option Value
held slot = option_and_then (λ value. value) slot

-- The slot holds what it held, and stays where it was.
pub record Stays (old new : Option (Option Value)) : Type 0 where
  pub same : held new ≡ held old
  pub there : IsSome old → IsSome new

-- for each field of a measurement a cell of it, which has a value where any cell of the field has
abbrev pub Samples : Type 0
Samples = BTreeMap (List ℕ) (BTreeMap (List ℕ) Cell)

abbrev pub sample_of : Samples → List ℕ → List ℕ → Option Cell
sample_of samples measurement field = option_and_then (λ fields. get text_cmp fields field) (get text_cmp samples measurement)
