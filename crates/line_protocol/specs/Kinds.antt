-- Which kind each field has had so far.
use Rattle.std.specs.Prelude.{ℕ, Bool, true, false, Option, Some, None, Result, Ok, Err, List, [], ◌∷◌, ◌++◌, if◌then◌else◌}
use Rattle.std.specs.Map.{lookup, update}
use Rattle.std.specs.Str.{bytes_eq}
use Rattle.tsdb_types.specs.Series.{measurement_ends_at, tag_ends_at}
use Rattle.tsdb_types.specs.Spelled.{unescaped}
use Rattle.tsdb_types.specs.Values.{kind_of}
use Rattle.tsdb_types.specs.declared.value.Kind.{Kind}
use Rattle.tsdb_types.specs.declared.value.Kind.TheVariants.{Integer, Unsigned, Boolean}
use Rattle.line_protocol.specs.declared.fault.LineCode.{LineCode}
use Rattle.line_protocol.specs.declared.fault.LineCode.TheVariants.{KindInBatch}
use Rattle.line_protocol.specs.declared.field.Field.{Field}
use Rattle.line_protocol.specs.declared.kinds.Kinds.{Kinds}
use Rattle.line_protocol.specs.declared.place.Place.{Place}
use Rattle.line_protocol.specs.Readings.{◌>>=◌}

-- the place of a field: its measurement, a newline and its name. No two fields share one, as no name holds a newline
abbrev pub place_of : List ℕ → List ℕ → List ℕ
place_of measurement field = measurement ++ 10 ∷ field

-- the kind of each place, `None` where no field stood there yet
abbrev pub Seen : Type 0
Seen = List ℕ → Option Kind

-- before the first line
abbrev pub nothing_seen : Seen
nothing_seen place = None

-- the place that a line spells so
abbrev pub place_spelled : Place → List ℕ
place_spelled place = place_of (unescaped measurement_ends_at place.measurement.now) (unescaped tag_ends_at place.key.now)

-- what is kept of the fields so far
abbrev pub seen_of : Kinds → Seen
seen_of kinds place = lookup (λ at. bytes_eq (place_spelled at) place) kinds.kinds.entries

-- the kinds are the same
abbrev pub is_same : Kind → Kind → Bool
is_same Integer Integer = true
is_same Integer Unsigned = false
is_same Integer Boolean = false
is_same Unsigned Integer = false
is_same Unsigned Unsigned = true
is_same Unsigned Boolean = false
is_same Boolean Integer = false
is_same Boolean Unsigned = false
is_same Boolean Boolean = true

-- a kind at a place where this one stood before, or none
abbrev pub note_behind : Option Kind → Seen → List ℕ → Kind → Result Seen LineCode
note_behind None seen place kind = Ok (update bytes_eq seen place (Some kind))
note_behind (Some before) seen place kind = if is_same before kind then Ok seen else Err KindInBatch

-- a field of this kind at the place, where none of another kind stood before
abbrev pub note : Seen → List ℕ → Kind → Result Seen LineCode
note seen place kind = note_behind (seen place) seen place kind

-- the fields of a line one after another, so that a field also meets the earlier ones of its own line
abbrev pub note_all : Seen → List ℕ → List Field → Result Seen LineCode
note_all seen measurement [] = Ok seen
note_all seen measurement (field ∷ fields) = note seen (place_of measurement field.name) (kind_of field.value) >>= λ after. note_all after measurement fields
