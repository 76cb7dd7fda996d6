-- What does one part more make of a condition that is being read?
use Rattle.std.specs.Prelude.{◌≡◌, List, Some, None}
use Rattle.point_model.specs.Flat.{Reading}
use Rattle.point_model.specs.declared.reader.ReadCond.{ReadCond}
use Rattle.point_model.specs.declared.reader.ReadCond.TheVariants as read

-- it is whole, or is read on at these open sides
abbrev pub IsRead : ReadCond → Reading → Type 0
IsRead (read.Open sides) reading = (reading.whole ≡ None) × (reading.sides ≡ sides)
IsRead (read.Whole condition) reading = reading.whole ≡ Some condition
