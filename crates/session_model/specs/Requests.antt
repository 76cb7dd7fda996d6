-- What does a request say, and when is it refused before any point is looked at?
use Rattle.std.specs.Prelude.{◌≡◌, ◌⊎◌, ℕ, ℤ, ◌+◌, Bool, not, ◌||◌, nat_lt, List, [], ◌∷◌, ◌++◌, length, codes, Option, Some, None, MatchOption, if◌then◌else◌}
use Rattle.std.specs.List.{list_any, flat_map}
use Rattle.std.specs.Str.{is_utf8}
use Rattle.std.specs.Str.Lines.{strip_carriage_return}
use Rattle.line_protocol.specs.declared.fault.LineCode.TheVariants.{BatchTooLong}
use Rattle.line_protocol.specs.Batches.{Lines, IsFault}
use Rattle.influxql_parser.specs.declared.fault.ReadFault.TheVariants as read_fault
use Rattle.influxql_parser.specs.Deletions.{BeginsDeletion, IsDeletion, IsNoDeletion, IsRefused}
use Rattle.session_model.specs.declared.statement.Refusal.{Refusal}
use Rattle.session_model.specs.declared.statement.Refusal.TheVariants.{Protocol, LineTooLong, BatchCut, NotText, Syntax, TimeInOr, NumberRange}
use Rattle.session_model.specs.declared.statement.Statement.{Statement}
use Rattle.session_model.specs.declared.statement.Statement.TheVariants.{Write, Delete, Select, After, Refused, NotBuilt}
use Rattle.session_model.specs.Lines.{Request}
use Rattle.session_model.specs.Lines.Request.{Line, Batch}
use Rattle.session_model.specs.Words.{IsWord, inserted_line, after_number}

-- a line has more than 65,536 bytes
abbrev pub is_long : List ℕ → Bool
is_long line = nat_lt 65536 (length line)

-- the first refusal of those that apply
abbrev pub first_of : List (Bool × Refusal) → Option Refusal
first_of [] = None
first_of (test ∷ more) = if test.0 then Some test.1 else first_of more

-- a BATCH is too long as a whole
abbrev pub too_long : Refusal
too_long = Protocol BatchTooLong 0

-- how many lines of a BATCH came
abbrev pub came : List (List ℕ) → List ℕ → ℕ
came lines [] = length lines
came lines (byte ∷ rest) = length lines + 1

-- a line of a BATCH is too long, without its end
abbrev pub has_long : List (List ℕ) → List ℕ → Bool
has_long lines rest = list_any (λ line. is_long (strip_carriage_return line)) lines || is_long rest

-- the text of a BATCH: its lines with their ends
abbrev pub batch_text : List (List ℕ) → List ℕ → List ℕ
batch_text lines rest = flat_map (λ line. line ++ 10 ∷ []) lines ++ rest

-- Why a request is refused whatever it says: the first of these, in this order. A BATCH names more than 5,000 lines; the
-- input ended before its last line; a line is too long without its end; its text, with the ends of the lines, is longer than
-- 16,777,216 bytes; it is no UTF-8.
unfoldable pub refusal_of : Request → Option Refusal
refusal_of (Line text) = first_of ((is_long text, LineTooLong) ∷ (not (is_utf8 text), NotText) ∷ [])
refusal_of (Batch count lines rest) = first_of ((nat_lt 5000 count, too_long) ∷ (nat_lt (came lines rest) count, BatchCut)
    ∷ (has_long lines rest, LineTooLong) ∷ (nat_lt 16777216 (length (batch_text lines rest)), too_long)
    ∷ (not (is_utf8 (batch_text lines rest)), NotText) ∷ [])

-- `SELECT field FROM measurement`, with the capitals and the single spaces as they stand here
pub record SaysSelect (line field measurement : List ℕ) : Type 0 where
  pub spelled : line ≡ codes "SELECT " ++ field ++ codes " FROM " ++ measurement
  pub of_field : IsWord field
  pub of_measurement : IsWord measurement

-- a text of line protocol says its points, or is refused with the code and the line of its fault
abbrev pub TextSays : List ℕ → ℤ → Statement → Type 0
TextSays text moment (Write points) = Lines text moment points
TextSays text moment (Refused (Protocol code line)) = IsFault text moment (record { code = code; line = line })
TextSays text moment (Refused LineTooLong) = ⊥
TextSays text moment (Refused BatchCut) = ⊥
TextSays text moment (Refused NotText) = ⊥
TextSays text moment (Refused Syntax) = ⊥
TextSays text moment (Refused TimeInOr) = ⊥
TextSays text moment (Refused NumberRange) = ⊥
TextSays text moment (Delete deletion) = ⊥
TextSays text moment (Select field measurement) = ⊥
TextSays text moment (After number) = ⊥
TextSays text moment NotBuilt = ⊥

-- a line that is none of the others says the one SELECT, or nothing that is built
abbrev pub SelectSays : List ℕ → Statement → Type 0
SelectSays line (Select field measurement) = SaysSelect line field measurement
SelectSays line NotBuilt = (field measurement : List ℕ) → ¬ (SaysSelect line field measurement)
SelectSays line (Write points) = ⊥
SelectSays line (Delete deletion) = ⊥
SelectSays line (After number) = ⊥
SelectSays line (Refused refusal) = ⊥

-- a DELETE or a DROP says its deletion at this moment, or is refused for its one cause
abbrev pub DeletionSays : List ℕ → ℤ → Statement → Type 0
DeletionSays line moment (Delete deletion) = IsDeletion line moment deletion
DeletionSays line moment (Refused Syntax) = IsNoDeletion line moment
DeletionSays line moment (Refused TimeInOr) = IsRefused line moment read_fault.TimeInOr
DeletionSays line moment (Refused NumberRange) = IsRefused line moment read_fault.NumberRange
DeletionSays line moment (Refused (Protocol code number)) = ⊥
DeletionSays line moment (Refused LineTooLong) = ⊥
DeletionSays line moment (Refused BatchCut) = ⊥
DeletionSays line moment (Refused NotText) = ⊥
DeletionSays line moment (Write points) = ⊥
DeletionSays line moment (Select field measurement) = ⊥
DeletionSays line moment (After number) = ⊥
DeletionSays line moment NotBuilt = ⊥

-- a line whose first word is DELETE or DROP says what it says as one; each other says the one SELECT, or nothing that is built
abbrev pub WordsSay : List ℕ → ℤ → Statement → Type 0
WordsSay line moment statement = (BeginsDeletion line × DeletionSays line moment statement) ⊎ ((¬ (BeginsDeletion line)) × SelectSays line statement)

-- a line says an INSERT, an AFTER, or what its words say
abbrev pub LineSays : List ℕ → ℤ → Statement → Type 0
LineSays line moment statement =
    MatchOption (inserted_line line)
    (MatchOption (after_number line) (WordsSay line moment statement) (λ number. statement ≡ After number))
    (λ text. TextSays text moment statement)

abbrev pub Says : Request → ℤ → Statement → Type 0
Says (Line line) moment statement = LineSays line moment statement
Says (Batch count lines rest) moment statement = TextSays (batch_text lines rest) moment statement

-- what the request asks for that took this moment
abbrev pub Means : Request → ℤ → Statement → Type 0
Means request moment statement = MatchOption (refusal_of request) (Says request moment statement) (λ refusal. statement ≡ Refused refusal)
