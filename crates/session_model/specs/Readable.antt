-- Which replies can be told from their bytes?
use Rattle.std.specs.Prelude.{◌≡◌, ℕ, ◌<◌, ◌^◌, ℤ, pos, negsuc, true, not, ◌==◌, List, All}
use Rattle.std.specs.List.{list_all}
use Rattle.session_model.specs.declared.statement.Refusal.{Refusal}
use Rattle.session_model.specs.declared.statement.Refusal.TheVariants.{Protocol, LineTooLong, BatchCut, NotText, Syntax, TimeInOr, NumberRange}
use Rattle.session_model.specs.Replies.{Shown, ShownRow, Table, Reply}
use Rattle.session_model.specs.Replies.Shown.{Number, Truth}
use Rattle.session_model.specs.Replies.Reply.{Accepted, Found, Reached, NotReached, NotBuilt, Refused, TypeConflict, HistoryFull, OutOfMemory, DeviceFault, Damaged, CacheFull, SeriesFull}

-- the byte doesn't stand in the text
abbrev pub Lacks : ℕ → List ℕ → Type 0
Lacks byte text = list_all (λ b. not (b == byte)) text ≡ true

-- a sign and 64 bits hold the number
abbrev pub Fits65 : ℤ → Type 0
Fits65 (pos n) = n < 2 ^ 64
Fits65 (negsuc n) = n < 2 ^ 64

abbrev pub IsReadableShown : Shown → Type 0
IsReadableShown (Number number) = Fits65 number
IsReadableShown (Truth truth) = Unit {0}

abbrev pub IsReadableRow : ShownRow → Type 0
IsReadableRow row = Fits65 row.0 × IsReadableShown row.1

pub record IsReadableTable (table : Table) : Type 0 where
  pub measurement : Lacks 10 table.measurement
  pub field : Lacks 10 table.field
  pub rows : All IsReadableRow table.rows

abbrev pub IsReadableRefusal : Refusal → Type 0
IsReadableRefusal (Protocol code line) = line < 2 ^ 64
IsReadableRefusal LineTooLong = Unit {0}
IsReadableRefusal BatchCut = Unit {0}
IsReadableRefusal NotText = Unit {0}
IsReadableRefusal Syntax = Unit {0}
IsReadableRefusal TimeInOr = Unit {0}
IsReadableRefusal NumberRange = Unit {0}

-- its numbers are of 64 bits, and its names stand on one line
abbrev pub IsReadable : Reply → Type 0
IsReadable (Accepted number) = number < 2 ^ 64
IsReadable (Found number tables) = (number < 2 ^ 64) × All IsReadableTable tables
IsReadable (Reached number) = number < 2 ^ 64
IsReadable (NotReached number) = number < 2 ^ 64
IsReadable NotBuilt = Unit {0}
IsReadable (Refused refusal) = IsReadableRefusal refusal
IsReadable (TypeConflict field held number) = Lacks 10 field × (number < 2 ^ 64)
IsReadable HistoryFull = Unit {0}
IsReadable OutOfMemory = Unit {0}
IsReadable DeviceFault = Unit {0}
IsReadable (Damaged file offset) = (file < 2 ^ 64) × (offset < 2 ^ 64)
IsReadable (CacheFull held) = held < 2 ^ 64
IsReadable (SeriesFull held) = held < 2 ^ 64
