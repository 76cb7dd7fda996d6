-- What a line is read to, over the kinds of the fields before it.
use Rattle.std.specs.Prelude.{◌≡◌, ◌≢◌, ℕ, ◌==◌, Bool, true, false, not, ◌||◌, nat_lt, ◌⊎◌, Result, Ok, Err, List, [], ◌∷◌, ◌++◌, map, take, length, ℤ, MatchOption, MatchBool, if◌then◌else◌}
use Rattle.std.specs.List.{list_any}
use Rattle.std.specs.Str.{bytes_eq}
use Rattle.tsdb_types.specs.Keys.{mark, key_of}
use Rattle.tsdb_types.specs.Series.{KeysDiffer, IsKeyOf}
use Rattle.tsdb_types.specs.declared.key.KeyFault.{KeyFault}
use Rattle.tsdb_types.specs.declared.key.KeyFault.TheVariants as fault
use Rattle.tsdb_types.specs.declared.point.Point.{Point}
use Rattle.line_protocol.specs.declared.fault.LineCode.{LineCode}
use Rattle.line_protocol.specs.declared.fault.LineCode.TheVariants.{DuplicateTag, NoField, BadTime, TimeRange, KeyTooLong, MarkInKey, ReservedName}
use Rattle.line_protocol.specs.declared.fault.Refusal.{Refusal}
use Rattle.line_protocol.specs.declared.fault.Refusal.TheVariants.{Code, Memory}
use Rattle.line_protocol.specs.declared.field.Field.{Field}
use Rattle.line_protocol.specs.Fields.{fields_of}
use Rattle.line_protocol.specs.Heads.{head_code, measurement_of, tags_of, time_word, has_time_tag}
use Rattle.line_protocol.specs.Kinds.{Seen, note_all}
use Rattle.line_protocol.specs.Numbers.{is_digits, is_negative, unsigned, number_of, signed_of, is_moment}
use Rattle.line_protocol.specs.Parts.{front, rest, parts, unspaced}
use Rattle.line_protocol.specs.Readings.{◌>>=◌, unless}

-- the measurement and the tags: what stands before the first space
abbrev pub head_of : List ℕ → List ℕ
head_of line = front 32 false line

-- what stands behind the spaces behind the head
abbrev pub behind_head : List ℕ → List ℕ
behind_head line = unspaced (rest 32 false line)

-- the fields: what stands there before the next space
abbrev pub fields_text : List ℕ → List ℕ
fields_text line = front 32 false (behind_head line)

-- the time: what stands behind the spaces behind the fields, up to the end of the line
abbrev pub time_text : List ℕ → List ℕ
time_text line = unspaced (rest 32 false (behind_head line))

-- the time that a text is; the moment where it is empty
abbrev pub time_of : ℤ → List ℕ → Result ℤ LineCode
time_of moment text =
    if length text == 0 then Ok moment
    else if not (is_digits (unsigned text)) then Err BadTime
    else if is_moment (number_of (unsigned text)) then Ok (signed_of (is_negative text) (number_of (unsigned text))) else Err TimeRange

-- a field is named `time`, exactly so
abbrev pub has_time_field : List Field → Bool
has_time_field fields = list_any (λ field. bytes_eq field.name time_word) fields

-- a mark begins in the key before its series ends, so that the key would be cut there
abbrev pub is_cut_short : List ℕ → List ℕ → Bool
is_cut_short [] field = false
is_cut_short (byte ∷ series) field = bytes_eq (take 4 (key_of (byte ∷ series) field)) mark || is_cut_short series field

-- the step over the key of one field
abbrev pub key_step : List ℕ → List ℕ → Result Bool LineCode
key_step series field =
    if nat_lt 65535 (length (key_of series field)) then Err KeyTooLong else unless (is_cut_short series field) MarkInKey

-- the step over the keys of all fields, with the code of the first field that has one
abbrev pub keys_step : List ℕ → List Field → Result Bool LineCode
keys_step series [] = Ok true
keys_step series (field ∷ fields) = key_step series field.name >>= λ fits. keys_step series fields

-- how a key with this fault is refused; where its length is more than a `usize` holds, memory is wanting
abbrev pub refusal_of : KeyFault → Refusal
refusal_of (fault.KeyTooLong len) = Code KeyTooLong
refusal_of (fault.MarkInKey at) = Code MarkInKey
refusal_of fault.Memory = Memory

-- a point for each field
abbrev pub points_of : ℤ → List ℕ → List Field → List Point
points_of time series fields = map (λ field. record { cell = record { time = time; series = series; field = field.name }; value = field.value }) fields

-- these points and then one for each field, where the keys of the fields let the step over them through
abbrev pub with_points : List Point → ℤ → List ℕ → List Field → Result (List Point) LineCode
with_points points time series fields = keys_step series fields >>= λ fits. Ok (points ++ points_of time series fields)

-- the points of a line, and the kinds behind it
pub record Read : Type 0 where
  pub points : List Point
  pub seen : Seen

-- the steps behind the head, each over the whole line before the next: the fields, the time, the reserved name, the keys, the kinds
unfoldable pub rest_of : Seen → ℤ → List ℕ → Bool → List ℕ → List ℕ → List ℕ → Result Read LineCode
rest_of seen moment measurement reserved series fields time = do
  found ← fields_of (parts 44 false fields)
  at ← time_of moment time
  unreserved ← unless (reserved || has_time_field found) ReservedName
  keyed ← keys_step series found
  after ← note_all seen measurement found
  Ok (record { points = points_of at series found; seen = after })

-- the line behind a head with different tag keys: it has fields, and the steps behind the head give the reading
abbrev pub FieldsAre : Seen → ℤ → List ℕ → Result Read LineCode → Type 0
FieldsAre seen moment line read =
    ((fields_text line ≡ []) × (read ≡ Err NoField))
    ⊎ ((fields_text line ≢ []) × (series : List ℕ) × IsKeyOf (measurement_of (head_of line)) (tags_of (head_of line)) series
    × (read ≡ rest_of seen moment (measurement_of (head_of line)) (has_time_tag (tags_of (head_of line))) series (fields_text line) (time_text line)))

-- the line behind a head without a fault but for equal tag keys
abbrev pub TagsAre : Seen → ℤ → List ℕ → Result Read LineCode → Type 0
TagsAre seen moment line read =
    (¬ (KeysDiffer (tags_of (head_of line))) × (read ≡ Err DuplicateTag)) ⊎ (KeysDiffer (tags_of (head_of line)) × FieldsAre seen moment line read)

-- what the line is read to: the steps over the head, over the tag keys, and over the rest
abbrev pub LineIs : Seen → ℤ → List ℕ → Result Read LineCode → Type 0
LineIs seen moment line read = MatchOption (head_code (head_of line)) (TagsAre seen moment line read) (λ code. read ≡ Err code)

-- a line that holds no point: it is empty, or a comment
abbrev pub is_skipped : List ℕ → Bool
is_skipped [] = true
is_skipped (byte ∷ line) = byte == 35

-- what any line is read to; one that holds no point leaves the kinds as they are
abbrev pub AnyLineIs : Seen → ℤ → List ℕ → Result Read LineCode → Type 0
AnyLineIs seen moment line read = MatchBool (is_skipped line) (read ≡ Ok (record { points = []; seen = seen })) (LineIs seen moment line read)
