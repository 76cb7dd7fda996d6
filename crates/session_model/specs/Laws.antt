-- Which laws do sessions keep?
use Rattle.std.specs.Prelude.{◌≡◌, ℕ, ◌-◌, ◌^◌, ◌<◌, ℤ, Bool, List, [], ◌∷◌, map, All}
use Rattle.std.specs.List.{flat_map}
use Rattle.point_model.specs.declared.entry.Entry.{Entry}
use Rattle.point_model.specs.Histories.{State, state_after}
use Rattle.session_model.specs.declared.statement.Statement.{Statement}
use Rattle.session_model.specs.Lines.{Request}
use Rattle.session_model.specs.Requests.{Means}
use Rattle.session_model.specs.Replies.{Reply, text}
use Rattle.session_model.specs.Readable.{IsReadable}
use Rattle.session_model.specs.Machine.{Answer, Run}
use Rattle.session_model.specs.Explained.{Transcript, Dialogue, Records, IsTold, Explained, all_answers}

-- a request that took a moment asks for one thing, so the machine has one reply to it
abbrev pub RequestsMeanOne : Type 0
RequestsMeanOne = (request : Request) (moment : ℤ) (first second : Statement) → Means request moment first → Means request moment second → first ≡ second

-- What the first client is answered by the machine, one request after another, has a history that explains the
-- transcript, and that leads to the state at the end.
abbrev pub RunsAreExplained : Type 0
RunsAreExplained = (start final : State) (transcript : Transcript) (dialogue : Dialogue)
    → Records start.number transcript dialogue → Run 0 start (all_answers dialogue) final
    → (history : List Entry) × Explained start history (transcript ∷ []) × (final ≡ state_after start history)

-- Where a history explains the transcript of one client, that client was answered by the machine, one request after another, in a
-- run that makes this history.
abbrev pub ExplainedAreRuns : Type 0
ExplainedAreRuns = (start : State) (history : List Entry) (transcript : Transcript) → Explained start history (transcript ∷ [])
    → (dialogue : Dialogue) × Records start.number transcript dialogue × Run 0 start (all_answers dialogue) (state_after start history)

-- whatever the cause of an answer that is none of the machine's
abbrev pub AnyCause : List Entry → Answer → Type 0
AnyCause history answer = Unit {0}

-- No two lists of replies have one text, and a transcript has one list of whole replies and one part behind it. A line
-- `at n` may be a whole reply or the part of a longer one. The count of whole replies tells, below its greatest value; and
-- the request tells always, where the answers are those of some history.
pub record RepliesAreReadBack : Type 0 where
  pub lists : (xs ys : List Reply) → All IsReadable xs → All IsReadable ys → flat_map text xs ≡ flat_map text ys → xs ≡ ys
  pub transcripts : (opening other : ℕ) (transcript : Transcript) (dialogue further : Dialogue)
      (first : Records opening transcript dialogue) (second : Records other transcript further)
      → transcript.report.requests < 2 ^ 64 - 1
      → (map (λ answer. answer.reply) dialogue.answers ≡ map (λ answer. answer.reply) further.answers) × (first.part ≡ second.part)
  pub explanations : (tells : Bool) (start other : State) (history further_history : List Entry) (client further_client place further_place : ℕ)
      (transcript : Transcript) (dialogue further : Dialogue)
      (first : IsTold tells AnyCause start history client transcript dialogue place)
      (second : IsTold tells AnyCause other further_history further_client transcript further further_place)
      → (map (λ answer. answer.reply) dialogue.answers ≡ map (λ answer. answer.reply) further.answers) × (first.records.part ≡ second.records.part)
