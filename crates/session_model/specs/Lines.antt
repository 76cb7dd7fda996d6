-- How are the bytes of a client cut into requests?
use Rattle.std.specs.Prelude.{ℕ, Bool, List, [], ◌∷◌, ◌++◌, length, fold, ◌==◌, Option, Some, None, if◌then◌else◌}
use Rattle.std.specs.List.{slice_split, list_all}
use Rattle.std.specs.Str.Lines.{strip_carriage_return}
use Rattle.session_model.specs.Words.{batch_count}

-- a request as it stands in the input
pub data Request : Type 0 where
  -- one line, without its end
  Line : (text : List ℕ) → Request
  -- a BATCH that names so many lines: those that came and that a newline ended, without it, and what stands behind them
  -- where the input ended before a newline
  Batch : (count : ℕ) → (lines : List (List ℕ)) → (rest : List ℕ) → Request

-- a line of spaces alone, or of nothing, is no request
abbrev pub is_blank : List ℕ → Bool
is_blank line = list_all (λ byte. byte == 32) line

-- what stands between the newlines
abbrev pub parts : List ℕ → List (List ℕ)
parts bytes = slice_split (λ byte. byte == 10) bytes

-- the parts that a newline ends: all but the last
abbrev pub ended_parts : List (List ℕ) → List (List ℕ)
ended_parts [] = []
ended_parts (last ∷ []) = []
ended_parts (part ∷ next ∷ more) = part ∷ ended_parts (next ∷ more)

-- the part behind the last newline
abbrev pub last_part : List (List ℕ) → List ℕ
last_part [] = []
last_part (last ∷ []) = last
last_part (part ∷ next ∷ more) = last_part (next ∷ more)

-- a BATCH whose last line hasn't ended: how many lines it names, and those that have ended
pub record Open : Type 0 where
  pub count : ℕ
  pub lines : List (List ℕ)

-- the requests whose last line has ended, and the BATCH whose last line hasn't
pub record Cut : Type 0 where
  pub requests : List Request
  pub open_batch : Option Open

-- behind these requests a BATCH has these lines; with the last of them it is a request
abbrev pub with_batch : List Request → ℕ → List (List ℕ) → Cut
with_batch requests count lines =
    if length lines == count then record { requests = requests ++ Batch count lines [] ∷ []; open_batch = None }
    else record { requests = requests; open_batch = Some (record { count = count; lines = lines }) }

-- behind these requests a line begins a BATCH of so many lines, or is a request of its own
abbrev pub with_first : List Request → List ℕ → Option ℕ → Cut
with_first requests line (Some count) = with_batch requests count []
with_first requests line None = record { requests = requests ++ Line line ∷ []; open_batch = None }

-- behind these requests comes a line that is none of a BATCH
unfoldable pub begin : List Request → List ℕ → Cut
begin requests line = if is_blank line then record { requests = requests; open_batch = None } else with_first requests line (batch_count line)

-- Behind these requests, and the BATCH that is open or none, a newline ends this part. One carriage return before it
-- belongs to the end of a line; the lines of a BATCH keep it.
abbrev pub next_line : List Request → Option Open → List ℕ → Cut
next_line requests None part = begin requests (strip_carriage_return part)
next_line requests (Some batch) part = with_batch requests batch.count (batch.lines ++ part ∷ [])

abbrev pub with_line : Cut → List ℕ → Cut
with_line cut part = next_line cut.requests cut.open_batch part

-- no request yet
abbrev pub nothing_cut : Cut
nothing_cut = record { requests = []; open_batch = None }

-- what the lines that have ended are cut into
abbrev pub cut_of : List ℕ → Cut
cut_of bytes = fold with_line nothing_cut (ended_parts (parts bytes))

-- the requests whose last line a newline ends
abbrev pub ended_requests : List ℕ → List Request
ended_requests bytes = (cut_of bytes).requests

-- at the end of the input a BATCH is a request, whether or not all its lines came
abbrev pub closed : List Request → Option Open → List ℕ → List Request
closed requests None rest = requests
closed requests (Some batch) rest = requests ++ Batch batch.count batch.lines rest ∷ []

-- Behind these requests, and the BATCH that is open or none, the end of the input ends this part. A carriage return at its
-- end stays.
abbrev pub last_line : List Request → Option Open → List ℕ → List Request
last_line requests None part = let cut = begin requests part in closed cut.requests cut.open_batch []
last_line requests (Some batch) part = closed requests (Some batch) part

-- all requests: the end of the input ends a line and a BATCH too
abbrev pub requests : List ℕ → List Request
requests bytes = let cut = cut_of bytes in last_line cut.requests cut.open_batch (last_part (parts bytes))
