-- What does reading a request owe?
use Rattle.std.specs.Prelude.{◌≡◌, ℕ, ℤ, List, MatchBool}
use Rattle.std.specs.Str.{is_utf8}
use Rattle.point_model.specs.Acceptance.{IsWritable}
use Rattle.point_model.specs.Deletions.{IsLoggable}
use Rattle.session_model.specs.declared.statement.Refusal.TheVariants.{NotText}
use Rattle.session_model.specs.declared.statement.Statement.{Statement}
use Rattle.session_model.specs.declared.statement.Statement.TheVariants.{Write, Delete, Select, After, Refused, NotBuilt}
use Rattle.session_model.specs.Requests.{TextSays}

-- a batch or a deletion that is asked for may be handed to a store
abbrev pub IsWritableStatement : Statement → Type 0
IsWritableStatement (Write points) = IsWritable points
IsWritableStatement (Delete deletion) = IsLoggable deletion
IsWritableStatement (Select field measurement) = Unit {0}
IsWritableStatement (After number) = Unit {0}
IsWritableStatement (Refused refusal) = Unit {0}
IsWritableStatement NotBuilt = Unit {0}

-- a text is refused where it is no UTF-8, and else says what it says as line protocol
abbrev pub TextOrNoneSays : List ℕ → ℤ → Statement → Type 0
TextOrNoneSays text moment statement = MatchBool (is_utf8 text) (TextSays text moment statement) (statement ≡ Refused NotText)
