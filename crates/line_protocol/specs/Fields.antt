-- Which fields a text is.
use Rattle.std.specs.Prelude.{ℕ, ◌==◌, Result, Ok, Err, List, [], ◌∷◌, ◌++◌, map, length, if◌then◌else◌}
use Rattle.tsdb_types.specs.Series.{tag_ends_at}
use Rattle.tsdb_types.specs.declared.value.Value.{Value}
use Rattle.line_protocol.specs.declared.fault.LineCode.{LineCode}
use Rattle.line_protocol.specs.declared.fault.LineCode.TheVariants.{BadField}
use Rattle.line_protocol.specs.declared.field.Field.{Field}
use Rattle.line_protocol.specs.declared.spelled_field.SpelledField.{SpelledField}
use Rattle.line_protocol.specs.Names.{unescaped, key_part, value_part}
use Rattle.line_protocol.specs.Values.{value_of}

-- fields in their order, or the code of the first part that is none
abbrev pub Fields : Type 0
Fields = Result (List Field) LineCode

-- a field with this key, if its value is one
abbrev pub field_with : List ℕ → Result Value LineCode → Result Field LineCode
field_with key (Ok value) = Ok (record { name = unescaped tag_ends_at key; value = value })
field_with key (Err code) = Err code

-- a key that isn't empty, an equals sign and a value; a part without an equals sign has no value
abbrev pub field_of : List ℕ → Result Field LineCode
field_of part = if length (key_part part) == 0 then Err BadField else field_with (key_part part) (value_of (value_part part))

-- these fields before others, if those are fields
abbrev pub prefixed : List Field → Fields → Fields
prefixed fields (Ok others) = Ok (fields ++ others)
prefixed fields (Err code) = Err code

-- what a part is read to, before what the parts behind it are read to
abbrev pub first_before : Result Field LineCode → Fields → Fields
first_before (Ok field) others = prefixed (field ∷ []) others
first_before (Err code) others = Err code

-- what the parts are read to
abbrev pub fields_of : List (List ℕ) → Fields
fields_of [] = Ok []
fields_of (part ∷ parts) = first_before (field_of part) (fields_of parts)

-- the field that a line spells so
abbrev pub field_spelled : SpelledField → Field
field_spelled field = record { name = unescaped tag_ends_at field.key.now; value = field.value }

-- the fields that a line spells so
abbrev pub fields_spelled : List SpelledField → List Field
fields_spelled fields = map field_spelled fields
