-- When does one history explain what all clients were told?
use Rattle.std.specs.Prelude.{◌≡◌, ℕ, ◌+◌, ◌-◌, ◌^◌, ◌<◌, ◌≤◌, ◌⊎◌, min, max, fold, ℤ, Bool, true, false, List, [], ◌∷◌, ◌++◌, length, take, map, All, Option, Some, None, IsSome, IfSome, IsPermutation, slice_get}
use Rattle.std.specs.List.{flat_map}
use Rattle.std.specs.Option.{option_to_list}
use Rattle.session_io.specs.declared.report.Report.{Report}
use Rattle.session_io.specs.declared.report.End.{End}
use Rattle.session_io.specs.declared.report.End.TheVariants.{Read, SourceFault, SinkFault, Memory}
use Rattle.point_model.specs.declared.entry.Entry.{Entry}
use Rattle.point_model.specs.Histories.{State, state_after}
use Rattle.session_model.specs.Lines.{Request, requests, ended_requests}
use Rattle.session_model.specs.Machine.{Answer, Serves, IsAside, IsOutOfMemory, TriesEntry}
use Rattle.session_model.specs.Replies.{text, accepted}
use Rattle.session_model.specs.Readable.{IsReadable}

-- what a session of a client left: the bytes read, whether the input has ended behind them, the moments asked, the
-- bytes written, and its report
pub record Transcript : Type 0 where
  pub read : List ℕ
  pub ended : Bool
  pub moments : List ℤ
  pub written : List ℕ
  pub report : Report

-- In the state behind so many entries of the history the answer is the machine's, and its entry is the history's
-- next; or the answer is none of the machine's, and has its cause there. The points of the state may be told, or not.
abbrev pub IsGivenAt : Bool → (List Entry → Answer → Type 0) → State → List Entry → ℕ → Answer → ℕ → Type 0
IsGivenAt tells HasCause start history client answer place = (place ≤ length history)
    × (IsAside (HasCause (take place history)) (state_after start (take place history)) answer
    ⊎ ((entry : Option Entry) × Serves tells (state_after start (take place history)) client answer entry
    × IfSome entry (λ made. slice_get history place ≡ Some made)))

-- The answers take places in the history that never fall, and each is behind the entries that the client was told
-- before were accepted.
abbrev pub TakePlaces : Bool → (List Entry → Answer → Type 0) → State → List Entry → ℕ → ℕ → List Answer → Type 0
TakePlaces tells HasCause start history client least [] = Unit {0}
TakePlaces tells HasCause start history client least (answer ∷ answers) = (place : ℕ) × (least ≤ place)
    × IsGivenAt tells HasCause start history client answer place
    × TakePlaces tells HasCause start history client (place + length (accepted answer.reply)) answers

-- One of the answers, which take these places, refused the entry, and its place is behind exactly the entries up to the number.
abbrev pub TriesAt : (tells : Bool) (HasCause : List Entry → Answer → Type 0) (start : State) (history : List Entry) (client least : ℕ) (answers : List Answer)
    → TakePlaces tells HasCause start history client least answers → ℕ × Entry → Type 0
TriesAt tells HasCause start history client least [] places attempt = ⊥
TriesAt tells HasCause start history client least (answer ∷ answers) places attempt =
    (TriesEntry client attempt.1 answer × (attempt.0 ≡ start.number + places.0))
    ⊎ TriesAt tells HasCause start history client (places.0 + length (accepted answer.reply)) answers places.3 attempt

-- the part is a proper front of the reply, or there is no further reply and no part
abbrev pub IsCutShort : List ℕ → Option Answer → Type 0
IsCutShort part None = part ≡ []
IsCutShort part (Some answer) = (rest : List ℕ) × (0 < length rest) × (text answer.reply ≡ part ++ rest)

-- the requests that may be answered: those whose last line has ended, by a newline or with the input
abbrev pub complete_requests : Bool → List ℕ → List Request
complete_requests true bytes = requests bytes
complete_requests false bytes = ended_requests bytes

-- These requests were answered, the last of them by the reply that was cut short, if one was. At the end of the input
-- all were; where the source failed, those that a newline ends; and only the sink or memory cuts a reply.
abbrev pub HasAsked : End → Bool → List ℕ → List Request → Option Answer → Type 0
HasAsked Read ended bytes asked cut = (ended ≡ true) × (asked ≡ requests bytes) × (cut ≡ None)
HasAsked SourceFault ended bytes asked cut = (asked ≡ ended_requests bytes) × (cut ≡ None)
HasAsked SinkFault ended bytes asked cut = (more : List Request) × (complete_requests ended bytes ≡ asked ++ more) × IsSome cut
HasAsked Memory ended bytes asked cut = (more : List Request) × (complete_requests ended bytes ≡ asked ++ more)

-- the greatest number that was told with an answer; that of the opening where none was
abbrev pub last_told : ℕ → List Answer → ℕ
last_told number answers = fold max number (flat_map (λ answer. option_to_list answer.number) answers)

-- what one client was answered: in replies that were written whole, and in one that was cut short
pub record Dialogue : Type 0 where
  pub answers : List Answer
  pub cut : Option Answer

abbrev pub all_answers : Dialogue → List Answer
all_answers dialogue = dialogue.answers ++ option_to_list dialogue.cut

-- The transcript is that of this dialogue of a client that was opened at this number. The count of replies stays at its
-- greatest value.
pub record Records (opening : ℕ) (transcript : Transcript) (dialogue : Dialogue) : Type 0 where
  pub asked : HasAsked transcript.report.end transcript.ended transcript.read (map (λ answer. answer.request) (all_answers dialogue)) dialogue.cut
  pub moments : transcript.moments ≡ map (λ answer. answer.moment) (all_answers dialogue)
  pub part : List ℕ
  pub written : transcript.written ≡ flat_map (λ answer. text answer.reply) dialogue.answers ++ part
  pub cut_short : IsCutShort part dialogue.cut
  pub readable : All (λ answer. IsReadable answer.reply) (all_answers dialogue)
  pub counted : transcript.report.requests ≡ min (length dialogue.answers) (2 ^ 64 - 1)
  pub last : transcript.report.last ≡ last_told opening (all_answers dialogue)

-- the numbers of the entries that the client was told, or would have been told by the reply that was cut short
abbrev pub own_numbers : Dialogue → List ℕ
own_numbers dialogue = flat_map (λ answer. accepted answer.reply) (all_answers dialogue)

-- the client was opened at this place of the history, and its answers take their places behind it
pub record IsTold (tells : Bool) (HasCause : List Entry → Answer → Type 0) (start : State) (history : List Entry) (client : ℕ) (transcript : Transcript) (dialogue : Dialogue) (place : ℕ) : Type 0 where
  pub within : place ≤ length history
  pub records : Records (start.number + place) transcript dialogue
  pub places : TakePlaces tells HasCause start history client place (all_answers dialogue)

-- the transcripts are those of the dialogues, one by one, and each dialogue takes its places in the history; the
-- clients are numbered from this one on
abbrev pub AreToldFrom : Bool → (List Entry → Answer → Type 0) → State → List Entry → ℕ → List Transcript → List Dialogue → Type 0
AreToldFrom tells HasCause start history client [] [] = Unit {0}
AreToldFrom tells HasCause start history client (transcript ∷ transcripts) (dialogue ∷ dialogues) =
    (place : ℕ) × IsTold tells HasCause start history client transcript dialogue place
    × AreToldFrom tells HasCause start history (client + 1) transcripts dialogues
AreToldFrom tells HasCause start history client [] (dialogue ∷ dialogues) = ⊥
AreToldFrom tells HasCause start history client (transcript ∷ transcripts) [] = ⊥

-- one of the clients was refused the entry by an answer whose place is behind exactly the entries up to the number
abbrev pub IsTriedIn : (tells : Bool) (HasCause : List Entry → Answer → Type 0) (start : State) (history : List Entry) (client : ℕ) (transcripts : List Transcript) (dialogues : List Dialogue)
    → AreToldFrom tells HasCause start history client transcripts dialogues → ℕ × Entry → Type 0
IsTriedIn tells HasCause start history client [] dialogues told attempt = ⊥
IsTriedIn tells HasCause start history client (transcript ∷ transcripts) [] told attempt = ⊥
IsTriedIn tells HasCause start history client (transcript ∷ transcripts) (dialogue ∷ dialogues) told attempt =
    TriesAt tells HasCause start history client told.0 (all_answers dialogue) told.1.places attempt
    ⊎ IsTriedIn tells HasCause start history (client + 1) transcripts dialogues told.2 attempt

-- the numbers of the entries, from this one on
abbrev pub numbers_from : ℕ → List Entry → List ℕ
numbers_from number [] = []
numbers_from number (entry ∷ entries) = number ∷ numbers_from (number + 1) entries

-- Each reply is the machine's at a place of the history, in an order that its client saw, or has its cause; and each
-- entry's number was told once, in a reply or in one that was cut short.
pub record ExplainedBut (tells : Bool) (HasCause : List Entry → Answer → Type 0) (start : State) (history : List Entry) (transcripts : List Transcript) : Type 0 where
  pub dialogues : List Dialogue
  pub told : AreToldFrom tells HasCause start history 0 transcripts dialogues
  pub each_once : IsPermutation (flat_map own_numbers dialogues) (numbers_from (start.number + 1) history)

-- each reply is the machine's, but for those that want memory
abbrev pub Explained : State → List Entry → List Transcript → Type 0
Explained start history transcripts = ExplainedBut true (λ before. IsOutOfMemory) start history transcripts
