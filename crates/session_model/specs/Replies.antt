-- Which replies are there, and how is each spelled?
use Rattle.std.specs.Prelude.{ℕ, ℤ, pos, Bool, true, false, List, [], ◌∷◌, ◌++◌, codes, map, Option, Some, None, ◌==◌, if◌then◌else◌}
use Rattle.std.specs.List.{flat_map}
use Rattle.std.specs.Fmt.{decimal, signed_decimal}
use Rattle.tsdb_types.specs.Series.{escaped, tag_ends_at}
use Rattle.tsdb_types.specs.declared.value.Kind.{Kind}
use Rattle.tsdb_types.specs.declared.value.Kind.TheVariants.{Integer, Unsigned, Boolean}
use Rattle.tsdb_types.specs.declared.value.Value.{Value}
use Rattle.tsdb_types.specs.declared.value.Value.TheVariants.{Int, Uint, Bool as Truth_value}
use Rattle.line_protocol.specs.declared.fault.LineCode.{LineCode}
use Rattle.line_protocol.specs.declared.fault.LineCode.TheVariants as code
use Rattle.session_model.specs.declared.statement.Refusal.{Refusal}
use Rattle.session_model.specs.declared.statement.Refusal.TheVariants.{Protocol, LineTooLong, BatchCut, NotText, Syntax, TimeInOr, NumberRange}

-- what a row shows of a value
pub data Shown : Type 0 where
  Number : (number : ℤ) → Shown
  Truth : (truth : Bool) → Shown

-- a signed and an unsigned number are shown alike
abbrev pub shown : Value → Shown
shown (Int number) = Number number
shown (Uint number) = Number (pos number)
shown (Truth_value truth) = Truth truth

-- a time, and what is shown at it
abbrev pub ShownRow : Type 0
ShownRow = ℤ × Shown

-- the rows of one field of a measurement
pub record Table : Type 0 where
  pub measurement : List ℕ
  pub field : List ℕ
  pub rows : List ShownRow

pub data Reply : Type 0 where
  -- the entry with this number was accepted
  Accepted : (number : ℕ) → Reply
  -- what was found after the entry with this number
  Found : (number : ℕ) → (tables : List Table) → Reply
  -- the last entry has this number, and the number that was asked for isn't above it
  Reached : (number : ℕ) → Reply
  -- the last entry has this number, and the number that was asked for is above it
  NotReached : (number : ℕ) → Reply
  -- the request says nothing that is built
  NotBuilt : Reply
  -- the request was refused before any point was looked at
  Refused : (refusal : Refusal) → Reply
  -- after the entry with this number the field holds values of this kind, and the batch has one of another
  TypeConflict : (field : List ℕ) → (held : Kind) → (number : ℕ) → Reply
  -- the last number is given
  HistoryFull : Reply
  -- there was no memory for the request, which changed nothing
  OutOfMemory : Reply
  -- a device failed, and the request changed nothing
  DeviceFault : Reply
  -- what is read is damaged, in this file at this offset
  Damaged : (file : ℕ) → (offset : ℕ) → Reply
  -- there is no room for the points of the batch beside so many
  CacheFull : (held : ℕ) → Reply
  -- there is no room for the new series of the batch beside so many
  SeriesFull : (held : ℕ) → Reply

abbrev pub shown_text : Shown → List ℕ
shown_text (Number number) = signed_decimal number
shown_text (Truth true) = codes "true"
shown_text (Truth false) = codes "false"

abbrev pub row_line : ShownRow → List ℕ
row_line row = signed_decimal row.0 ++ codes " " ++ shown_text row.1

abbrev pub table_lines : Table → List (List ℕ)
table_lines table = (codes "name: " ++ table.measurement) ∷ (codes "time " ++ table.field) ∷ map row_line table.rows

-- a name, with a backslash before each comma, equals sign and space
abbrev pub name_text : List ℕ → List ℕ
name_text name = escaped tag_ends_at name

abbrev pub kind_text : Kind → List ℕ
kind_text Integer = codes "integer"
kind_text Unsigned = codes "unsigned"
kind_text Boolean = codes "boolean"

-- the code of a line, and its name
unfoldable pub code_text : LineCode → List ℕ
code_text code.NoMeasurement = codes "L1 NoMeasurement"
code_text code.BadTag = codes "L2 BadTag"
code_text code.DuplicateTag = codes "L3 DuplicateTag"
code_text code.NoField = codes "L4 NoField"
code_text code.BadField = codes "L5 BadField"
code_text code.FloatValue = codes "L6 FloatValue"
code_text code.StringValue = codes "L7 StringValue"
code_text code.NumberRange = codes "L8 NumberRange"
code_text code.BadTime = codes "L9 BadTime"
code_text code.TimeRange = codes "L10 TimeRange"
code_text code.KeyTooLong = codes "L11 KeyTooLong"
code_text code.MarkInKey = codes "L12 MarkInKey"
code_text code.ReservedName = codes "L13 ReservedName"
code_text code.KindInBatch = codes "L14 KindInBatch"
code_text code.NoPoints = codes "L15 NoPoints"
code_text code.BatchTooLong = codes "L16 BatchTooLong"

-- which line is meant, where it isn't the whole text
abbrev pub place_text : ℕ → List ℕ
place_text line = if line == 0 then [] else codes " line " ++ decimal line

abbrev pub refusal_text : Refusal → List ℕ
refusal_text (Protocol code line) = code_text code ++ place_text line
refusal_text LineTooLong = codes "S1 LineTooLong"
refusal_text BatchCut = codes "S2 BatchCut"
refusal_text NotText = codes "S3 NotText"
refusal_text Syntax = codes "Q1 Syntax"
refusal_text TimeInOr = codes "Q2 TimeInOr"
refusal_text NumberRange = codes "Q3 NumberRange"

-- the first line of a reply, without its end
unfoldable pub first_line : Reply → List ℕ
first_line (Accepted number) = codes "ok " ++ decimal number
first_line (Found number tables) = codes "at " ++ decimal number
first_line (Reached number) = codes "at " ++ decimal number
first_line (NotReached number) = codes "notyet " ++ decimal number
first_line NotBuilt = codes "error B1 NotBuilt"
first_line (Refused refusal) = codes "error " ++ refusal_text refusal
first_line (TypeConflict field held number) =
    codes "error T1 TypeConflict " ++ name_text field ++ codes " " ++ kind_text held ++ codes " at " ++ decimal number
first_line HistoryFull = codes "error E5 HistoryFull"
first_line OutOfMemory = codes "error E4 Memory"
first_line DeviceFault = codes "error E2 Fault"
first_line (Damaged file offset) = codes "error E3 Damaged " ++ decimal file ++ codes " " ++ decimal offset
first_line (CacheFull held) = codes "error E1 CacheFull " ++ decimal held
first_line (SeriesFull held) = codes "error E6 SeriesFull " ++ decimal held

-- the further lines: those of the tables, and a line that ends them
abbrev pub more_lines : Reply → List (List ℕ)
more_lines (Accepted number) = []
more_lines (Found number tables) = flat_map table_lines tables ++ codes "." ∷ []
more_lines (Reached number) = []
more_lines (NotReached number) = []
more_lines NotBuilt = []
more_lines (Refused refusal) = []
more_lines (TypeConflict field held number) = []
more_lines HistoryFull = []
more_lines OutOfMemory = []
more_lines DeviceFault = []
more_lines (Damaged file offset) = []
more_lines (CacheFull held) = []
more_lines (SeriesFull held) = []

-- the lines, each with a newline behind it
abbrev pub ended : List (List ℕ) → List ℕ
ended these = flat_map (λ line. line ++ 10 ∷ []) these

abbrev pub text : Reply → List ℕ
text reply = ended (first_line reply ∷ more_lines reply)

-- the number of the entry that a reply says was accepted
abbrev pub accepted : Reply → List ℕ
accepted (Accepted number) = number ∷ []
accepted (Found number tables) = []
accepted (Reached number) = []
accepted (NotReached number) = []
accepted NotBuilt = []
accepted (Refused refusal) = []
accepted (TypeConflict field held number) = []
accepted HistoryFull = []
accepted OutOfMemory = []
accepted DeviceFault = []
accepted (Damaged file offset) = []
accepted (CacheFull held) = []
accepted (SeriesFull held) = []

-- the number that a reply of the machine names; a full history names the last one there is
abbrev pub named : Reply → Option ℕ
named (Accepted number) = Some number
named (Found number tables) = Some number
named (Reached number) = Some number
named (NotReached number) = Some number
named NotBuilt = None
named (Refused refusal) = None
named (TypeConflict field held number) = Some number
named HistoryFull = Some 9223372036854775807
named OutOfMemory = None
named DeviceFault = None
named (Damaged file offset) = None
named (CacheFull held) = None
named (SeriesFull held) = None
