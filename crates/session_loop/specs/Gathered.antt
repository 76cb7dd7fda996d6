-- What is kept of a BATCH while its lines come?
use Rattle.std.specs.Prelude.{◌≡◌, ℕ, ◌<◌, ◌≤◌, Bool, true, false, not, List, length, Some, None, Result, Ok, Err, if◌then◌else◌}
use Rattle.std.specs.Str.{is_utf8}
use Rattle.session_model.specs.declared.statement.Refusal.TheVariants.{NotText}
use Rattle.session_model.specs.Lines.Request.{Batch}
use Rattle.session_model.specs.Requests.{came, has_long, batch_text, refusal_of}
use Rattle.session_loop.specs.declared.gathering.Fate.{Fate}
use Rattle.session_loop.specs.declared.gathering.Fate.TheVariants as fate
use Rattle.session_loop.specs.declared.gathering.Gathering.{Gathering}
use Rattle.session_loop.specs.declared.gathering.Unread.{Unread}
use Rattle.session_loop.specs.declared.gathering.Unread.TheVariants.{Refused, NoMemory}

-- what is known of a text, of which this is kept, and of whether a line of it is too long
abbrev pub FateIs : Fate → List ℕ → List ℕ → Bool → Type 0
FateIs fate.Kept kept text long = (kept ≡ text) × (long ≡ false) × (length text ≤ 16777216)
FateIs fate.TooLong kept text long = (long ≡ false) × (16777216 < length text)
FateIs fate.LineTooLong kept text long = long ≡ true
FateIs fate.NoMemory kept text long = Unit {0}

-- the lines of a BATCH that names so many, and what stands behind them; nothing is kept of one that names too many
pub record Gathers (gathering : Gathering) (count : ℕ) (lines : List (List ℕ)) (rest : List ℕ) : Type 0 where
  pub named : gathering.count ≡ count
  pub came : gathering.came ≡ came lines rest
  pub fate : count ≤ 5000 → FateIs gathering.fate gathering.text.items (batch_text lines rest) (has_long lines rest)

-- the text of the BATCH, which may still be no UTF-8; or why it is refused before that is asked
abbrev pub IsRead : {T : Type 0} → (T → List ℕ) → Result T Unread → ℕ → List (List ℕ) → List ℕ → Type 0
IsRead view (Ok text) count lines rest = (view text ≡ batch_text lines rest)
    × (refusal_of (Batch count lines rest) ≡ (if not (is_utf8 (view text)) then Some NotText else None))
IsRead view (Err (Refused refusal)) count lines rest = refusal_of (Batch count lines rest) ≡ Some refusal
IsRead view (Err NoMemory) count lines rest = Unit {0}
