-- Which batch a text of lines is, and which line has the first fault where it is none.
use Rattle.std.specs.Prelude.{◌≡◌, ◌≢◌, ℕ, ◌+◌, ◌-◌, ◌<◌, ◌==◌, not, ◌&&◌, ◌⊎◌, Bool, Result, Ok, Err, List, [], ◌∷◌, ◌++◌, length, slice_index, count_by, ℤ, MatchResult, if◌then◌else◌}
use Rattle.std.specs.List.{slice_split}
use Rattle.tsdb_types.specs.declared.point.Point.{Point}
use Rattle.line_protocol.specs.declared.fault.LineCode.{LineCode}
use Rattle.line_protocol.specs.declared.fault.LineCode.TheVariants.{NoPoints, BatchTooLong}
use Rattle.line_protocol.specs.declared.fault.LineFault.{LineFault}
use Rattle.line_protocol.specs.declared.fault.LineFault.TheVariants.{Line, Memory}
use Rattle.line_protocol.specs.declared.fault.Refusal.{Refusal}
use Rattle.line_protocol.specs.declared.fault.Refusal.TheVariants as refusal
use Rattle.line_protocol.specs.Kinds.{Seen, nothing_seen}
use Rattle.line_protocol.specs.Lines.{Read, AnyLineIs}
use Rattle.line_protocol.specs.Parts.{trimmed}

-- a code and the number of its line
pub record At : Type 0 where
  pub code : LineCode
  pub line : ℕ

-- the points of lines, or the first code
abbrev pub Points : Type 0
Points = Result (List Point) At

-- the lines of a text; behind a newline at its end stands one more, which is empty
abbrev pub lines_of : List ℕ → List (List ℕ)
lines_of text = slice_split (λ byte. byte == 10) text

-- the text has an end without a newline
abbrev pub is_open : List ℕ → Bool
is_open text = not (length text == 0) && not (slice_index text (length text - 1) == 10)

-- how many lines a text has; a newline at its end begins no further line
abbrev pub line_count : List ℕ → ℕ
line_count text = count_by (λ byte. byte == 10) text + (if is_open text then 1 else 0)

-- more than 16,777,216 bytes or 5,000 lines
abbrev pub IsTooLong : List ℕ → Type 0
IsTooLong text = (16777216 < length text) ⊎ (5000 < line_count text)

-- these points before others
abbrev pub points_before : List Point → Points → Points
points_before points (Ok others) = Ok (points ++ others)
points_before points (Err at) = Err at

-- a line with this number and reading, before lines that are read as `Others` says over the kinds behind it
abbrev pub Follows : ℕ → Result Read LineCode → (Seen → Points → Type 0) → Points → Type 0
Follows number read Others result =
    MatchResult read
    (λ first. (others : Points) × Others first.seen others × (result ≡ points_before first.points others))
    (λ code. result ≡ Err (record { code = code; line = number }))

-- what the lines from this number on are read to, over the kinds of the fields before them
abbrev pub LinesAre : ℤ → List (List ℕ) → ℕ → Seen → Points → Type 0
LinesAre moment [] number seen result = result ≡ Ok []
LinesAre moment (line ∷ lines) number seen result =
    (read : Result Read LineCode) × AnyLineIs seen moment (trimmed line) read × Follows number read (LinesAre moment lines (number + 1)) result

-- what the lines of a text are read to
abbrev pub TextIs : List ℕ → ℤ → Points → Type 0
TextIs text moment result = LinesAre moment (lines_of text) 1 nothing_seen result

-- what a text is read to: it is refused as a whole where it is too long, else its lines are read
abbrev pub BatchIs : List ℕ → ℤ → Points → Type 0
BatchIs text moment result = (IsTooLong text × (result ≡ Err (record { code = BatchTooLong; line = 0 }))) ⊎ (¬ (IsTooLong text) × TextIs text moment result)

-- the text isn't too long, no line has a fault, and these are the points of all lines, at least one
pub record Lines (text : List ℕ) (moment : ℤ) (points : List Point) : Type 0 where
  pub fits : ¬ IsTooLong text
  pub read : TextIs text moment (Ok points)
  pub some : points ≢ []

-- why the text is no batch: it is too long, before all else; a line is the first with a fault; or no line holds a point. The line is
-- 0 where the whole text is meant
abbrev pub IsFault : List ℕ → ℤ → At → Type 0
IsFault text moment at =
    (IsTooLong text × (at ≡ record { code = BatchTooLong; line = 0 }))
    ⊎ (¬ (IsTooLong text) × TextIs text moment (Err at))
    ⊎ (¬ (IsTooLong text) × TextIs text moment (Ok []) × (at ≡ record { code = NoPoints; line = 0 }))

-- how a text is refused whose line with this number is refused so
abbrev pub fault_of : Refusal → ℕ → LineFault
fault_of (refusal.Code code) line = Line code line
fault_of refusal.Memory line = Memory

-- a fault with a line has this code there; want of memory tells nothing
abbrev pub FaultGives : LineFault → (Points → Type 0) → Type 0
FaultGives (Line code line) Holds = Holds (Err (record { code = code; line = line }))
FaultGives Memory Holds = Unit {0}

-- what a call gave, as it is seen, is what the lines are read to
abbrev pub LinesGive : {X : Type 0} → (X → List Point) → Result X LineFault → (Points → Type 0) → Type 0
LinesGive view (Ok given) Holds = Holds (Ok (view given))
LinesGive view (Err fault) Holds = FaultGives fault Holds
