-- What does the machine of one thread reply to a request, and which entry does it make?
use Rattle.std.specs.Prelude.{◌≡◌, ◌⊎◌, ℕ, ◌+◌, ℤ, Bool, true, IsTrue, nat_lt, nat_le, List, [], ◌∷◌, map, Option, Some, None, if◌then◌else◌}
use Rattle.tsdb_types.specs.declared.point.Point.{Point}
use Rattle.point_model.specs.Points.{Points}
use Rattle.point_model.specs.declared.entry.Entry.{Entry}
use Rattle.point_model.specs.Histories.{State, after_entry}
use Rattle.point_model.specs.declared.entry.Entry.TheVariants.{Write as Write_entry, Delete as Delete_entry}
use Rattle.point_model.specs.Acceptance.{Conflict, conflict}
use Rattle.point_model.specs.Rows.{Row, rows_of}
use Rattle.session_model.specs.declared.statement.Statement.{Statement}
use Rattle.session_model.specs.declared.statement.Statement.TheVariants as statement
use Rattle.session_model.specs.Lines.{Request}
use Rattle.session_model.specs.Requests.{Means}
use Rattle.session_model.specs.Replies.{Reply, Table, ShownRow, shown, named}
use Rattle.session_model.specs.Replies.Reply.{Accepted, Found, Reached, NotReached, NotBuilt, Refused, TypeConflict, HistoryFull, OutOfMemory, DeviceFault, Damaged, CacheFull, SeriesFull}

abbrev pub shown_row : Row → ShownRow
shown_row row = (row.0, shown row.1)

-- a field without a row has no table
abbrev pub tables_of : List ℕ → List ℕ → List Row → List Table
tables_of measurement field [] = []
tables_of measurement field (row ∷ rows) =
    record { measurement = measurement; field = field; rows = map shown_row (row ∷ rows) } ∷ []

pub record Served : Type 0 where
  pub reply : Reply
  pub entry : Option Entry

-- what the machine gives to one that would make this entry; no entry has a greater number than the last of 63 bits
abbrev pub serve_entry : ℕ → Entry → Served
serve_entry number entry =
    if nat_lt number 9223372036854775807 then record { reply = Accepted (number + 1); entry = Some entry }
    else record { reply = HistoryFull; entry = None }

-- what the machine gives to a batch that is in this conflict with the points, or in none
abbrev pub serve_batch : ℕ → ℕ → List Point → Option Conflict → Served
serve_batch number client points (Some found) = record { reply = TypeConflict found.field found.held number; entry = None }
serve_batch number client points None = serve_entry number (Write_entry client points)

-- what the machine gives to a client that asks for this, at these points and this number
abbrev pub serve : Points → ℕ → ℕ → Statement → Served
serve points number client (statement.Write batch) = serve_batch number client batch (conflict points batch)
serve points number client (statement.Delete deletion) = serve_entry number (Delete_entry client deletion)
serve points number client (statement.Select field measurement) =
    record { reply = Found number (tables_of measurement field (rows_of measurement field points)); entry = None }
serve points number client (statement.After wanted) =
    record { reply = if nat_le wanted number then Reached number else NotReached number; entry = None }
serve points number client (statement.Refused refusal) = record { reply = Refused refusal; entry = None }
serve points number client statement.NotBuilt = record { reply = NotBuilt; entry = None }

-- the entry that a client would have made who asks for this, if it would have made one
abbrev pub entry_asked : ℕ → Statement → Option Entry
entry_asked client (statement.Write batch) = Some (Write_entry client batch)
entry_asked client (statement.Delete deletion) = Some (Delete_entry client deletion)
entry_asked client (statement.Select field measurement) = None
entry_asked client (statement.After wanted) = None
entry_asked client (statement.Refused refusal) = None
entry_asked client statement.NotBuilt = None

-- a request, the moment that it took, the reply, and the number that the store told for it, if it told one
pub record Answer : Type 0 where
  pub request : Request
  pub moment : ℤ
  pub reply : Reply
  pub number : Option ℕ

-- The answer is the machine's to a client in this state, and makes this entry or none. Where the points aren't told, it is
-- the machine's at the state's number and some points: only the rows of a SELECT, and which kind a conflict names, are left open.
pub record Serves (tells : Bool) (state : State) (client : ℕ) (answer : Answer) (entry : Option Entry) : Type 0 where
  pub asks : Statement
  pub means : Means answer.request answer.moment asks
  pub points : Points
  pub are_told : IsTrue tells → points ≡ state.points
  pub reply : answer.reply ≡ (serve points state.number client asks).reply
  pub number : answer.number ≡ named answer.reply
  pub entry_made : entry ≡ (serve points state.number client asks).entry

-- the replies that are none of the machine's
abbrev pub IsOfStore : Reply → Type 0
IsOfStore OutOfMemory = Unit {0}
IsOfStore DeviceFault = Unit {0}
IsOfStore (Damaged file offset) = Unit {0}
IsOfStore (CacheFull held) = Unit {0}
IsOfStore (SeriesFull held) = Unit {0}
IsOfStore (Accepted number) = ⊥
IsOfStore (Found number tables) = ⊥
IsOfStore (Reached number) = ⊥
IsOfStore (NotReached number) = ⊥
IsOfStore NotBuilt = ⊥
IsOfStore (Refused refusal) = ⊥
IsOfStore (TypeConflict field held number) = ⊥
IsOfStore HistoryFull = ⊥

-- The answer is none of the machine's, and has its cause: it leaves the state, which it may have been told the number of.
pub record IsAside (HasCause : Answer → Type 0) (state : State) (answer : Answer) : Type 0 where
  pub aside : IsOfStore answer.reply
  pub cause : HasCause answer
  pub number : (answer.number ≡ None) ⊎ (answer.number ≡ Some state.number)

-- the answer says that there was no memory for the request
abbrev pub IsOutOfMemory : Answer → Type 0
IsOutOfMemory answer = answer.reply ≡ OutOfMemory

-- The answer refused this entry, which the client asked for, by a fault of a device or for want of memory.
pub record TriesEntry (client : ℕ) (entry : Entry) (answer : Answer) : Type 0 where
  pub asks : Statement
  pub means : Means answer.request answer.moment asks
  pub asked : entry_asked client asks ≡ Some entry
  pub refused : (answer.reply ≡ DeviceFault) ⊎ (answer.reply ≡ OutOfMemory)

-- the state behind an entry, if there is one
abbrev pub with_entry : State → Option Entry → State
with_entry state None = state
with_entry state (Some entry) = record { points = after_entry state.points entry; number = state.number + 1 }

-- the client is given this answer, which leads from one state to the other
abbrev pub Step : ℕ → State → Answer → State → Type 0
Step client old answer new = (IsAside IsOutOfMemory old answer × (new ≡ old))
    ⊎ ((entry : Option Entry) × Serves true old client answer entry × (new ≡ with_entry old entry))

-- the client is given these answers, one after another
abbrev pub Run : ℕ → State → List Answer → State → Type 0
Run client old [] new = new ≡ old
Run client old (answer ∷ answers) new = (mid : State) × Step client old answer mid × Run client mid answers new
