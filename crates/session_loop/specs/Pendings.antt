-- What has come of the next request, and which request has ended?
use Rattle.std.specs.Prelude.{◌≡◌, ℕ, ◌<◌, true, false, List, [], ◌∷◌, ◌++◌, length, Option, Some, None}
use Rattle.session_model.specs.Lines.{Open, Request}
use Rattle.session_model.specs.Lines.Request.{Line, Batch}
use Rattle.session_loop.specs.declared.pending.Pending.{Pending}
use Rattle.session_loop.specs.declared.pending.Ended.{Ended}
use Rattle.session_loop.specs.declared.pending.Ended.TheVariants as ended
use Rattle.session_loop.specs.LineAsItComes.{Holds, StandsFor}
use Rattle.session_loop.specs.Gathered.{Gathers}

-- the BATCH whose last line hasn't ended is gathered, and there is none where there is none
abbrev pub HoldsBatch : Pending → Option Open → Type 0
HoldsBatch pending None = pending.is_batch ≡ false
HoldsBatch pending (Some batch) = (pending.is_batch ≡ true) × (length batch.lines < batch.count) × Gathers pending.batch batch.count batch.lines []

-- this BATCH stands open, or none, and the line behind it came so far
pub record Pends (pending : Pending) (batch : Option Open) (last : List ℕ) : Type 0 where
  pub gathered : HoldsBatch pending batch
  pub line : Holds pending.line last

-- behind the requests before, this one has ended, or none
abbrev pub HasEnded : Ended → Pending → List Request → List Request → Type 0
HasEnded ended.Nothing pending before after = after ≡ before
HasEnded ended.Line pending before after = (text : List ℕ) × StandsFor 65536 pending.line.kept.items text × (after ≡ before ++ Line text ∷ [])
HasEnded ended.Batch pending before after = (count : ℕ) × (lines : List (List ℕ)) × (rest : List ℕ) × Gathers pending.batch count lines rest
    × (after ≡ before ++ Batch count lines rest ∷ [])
