-- How does a session go on, from one moment to a later one?
use Rattle.std.specs.Prelude.{◌≡◌, ℕ, ℤ, ◌+◌, ◌^◌, ◌-◌, min, max, fold, Bool, List, [], ◌∷◌, ◌++◌, length, map, Option, MatchOption, ◌<◌}
use Rattle.std.specs.List.{flat_map}
use Rattle.std.specs.Option.{option_to_list}
use Rattle.shard_disk.specs.Health.{Health}
use Rattle.session_io.specs.declared.report.End.{End}
use Rattle.session_io.specs.Streams.{Grows, Shrinks}
use Rattle.store_trait.specs.Told.{Told}
use Rattle.session_model.specs.Explained.{HasAsked, last_told}
use Rattle.session_model.specs.Lines.{Request, parts, cut_of, ended_requests, requests}
use Rattle.session_model.specs.Machine.{Answer}
use Rattle.session_model.specs.Replies.{Reply, text}
use Rattle.session_loop.specs.declared.pending.Pending.{Pending}
use Rattle.session_loop.specs.declared.client.Session.{Session}
use Rattle.session_loop.specs.Pendings.{Pends}
use Rattle.session_loop.specs.Steps.{Stored, Step, Steps, answer_to}

-- what has come of the last request is kept behind these bytes
pub record HoldsLast (pending : Pending) (bytes : List ℕ) : Type 0 where
  pub lines : List (List ℕ)
  pub last : List ℕ
  pub cut : parts bytes ≡ lines ++ last ∷ []
  pub pends : Pends pending (cut_of bytes).open_batch last

-- a moment of a session but for its clock: what its store tells, how many replies it has written, the greatest number
-- that it was told, and what its sink tells
pub record Saying : Type 0 where
  pub store : Stored
  pub replies : ℕ
  pub last : ℕ
  pub written : Option (List ℕ)

-- the same, and what its clock tells
pub record Moment : Type 0 where
  pub saying : Saying
  pub moments : Option (List ℤ)

abbrev pub saying : {S K : Type 0} → (S → Told) → (S → Health) → (K → Option (List ℕ)) → Session → S → K → Saying
saying told health written session store sink = record {
  store = record { told = told store; health = health store };
  replies = session.replies;
  last = session.last;
  written = written sink;
}

-- the moment at which a session, its store, its sink and its clock are these
abbrev pub moment : {S K C : Type 0} → (S → Told) → (S → Health) → (K → Option (List ℕ)) → (C → Option (List ℤ)) → Session → S → K → C → Moment
moment told health written moments session store sink clock =
    record { saying = saying told health written session store sink; moments = moments clock }

abbrev pub texts : List Answer → List ℕ
texts answers = flat_map (λ answer. text answer.reply) answers

abbrev pub requests_of : List Answer → List Request
requests_of answers = map (λ answer. answer.request) answers

abbrev pub moments_of : List Answer → List ℤ
moments_of answers = map (λ answer. answer.moment) answers

-- the count of replies behind these, which stays at its greatest value
abbrev pub counted : ℕ → List Answer → ℕ
counted count [] = count
counted count (answer ∷ answers) = counted (min (count + 1) (2 ^ 64 - 1)) answers

-- the session gave this reply to a request that took this moment, and wrote it whole
pub record Answers (old new : Saying) (request : Request) (at : ℤ) : Type 0 where
  pub reply : Reply
  pub number : Option ℕ
  pub step : Step old.store (answer_to request at reply number) new.store
  pub written : Grows old.written new.written (text reply)
  pub replies : new.replies ≡ min (old.replies + 1) (2 ^ 64 - 1)
  pub last : new.last ≡ fold max old.last (option_to_list number)

-- the session made this reply to a request that took this moment, and wrote a proper front of it
pub record BreaksOff (old new : Saying) (request : Request) (at : ℤ) : Type 0 where
  pub reply : Reply
  pub number : Option ℕ
  pub step : Step old.store (answer_to request at reply number) new.store
  pub part : List ℕ
  pub rest : List ℕ
  pub whole : text reply ≡ part ++ rest
  pub missing : 0 < length rest
  pub written : Grows old.written new.written part
  pub replies : new.replies ≡ old.replies
  pub last : new.last ≡ fold max old.last (option_to_list number)

-- the session took one moment of its clock, and answered this request
pub record AnswersOne (old new : Moment) (request : Request) : Type 0 where
  pub at : ℤ
  pub moments : Grows old.moments new.moments (at ∷ [])
  pub answers : Answers old.saying new.saying request at

-- the session took one moment of its clock, and broke off in the answer to this request
pub record StopsInOne (old new : Moment) (request : Request) : Type 0 where
  pub at : ℤ
  pub moments : Grows old.moments new.moments (at ∷ [])
  pub breaks_off : BreaksOff old.saying new.saying request at

-- the session gave these answers, each written whole
pub record Answered (old new : Moment) (answers : List Answer) : Type 0 where
  pub steps : Steps old.saying.store answers new.saying.store
  pub written : Grows old.saying.written new.saying.written (texts answers)
  pub moments : Grows old.moments new.moments (moments_of answers)
  pub replies : new.saying.replies ≡ counted old.saying.replies answers
  pub last : new.saying.last ≡ last_told old.saying.last answers

-- the session gave one more answer, whose text was cut short
pub record CutShort (old new : Moment) (answer : Answer) : Type 0 where
  pub step : Step old.saying.store answer new.saying.store
  pub part : List ℕ
  pub rest : List ℕ
  pub whole : text answer.reply ≡ part ++ rest
  pub missing : 0 < length rest
  pub written : Grows old.saying.written new.saying.written part
  pub moments : Grows old.moments new.moments (moments_of (answer ∷ []))
  pub replies : new.saying.replies ≡ old.saying.replies
  pub last : new.saying.last ≡ last_told old.saying.last (answer ∷ [])

-- the session answered the requests that there are more than before
pub record Replied (old new : Moment) (before after : List Request) : Type 0 where
  pub answers : List Answer
  pub answered : Answered old new answers
  pub asked : after ≡ before ++ requests_of answers

-- the session stopped in the answer to the one request that there is more than before
pub record StopsIn (old new : Moment) (before after : List Request) : Type 0 where
  pub answer : Answer
  pub cut_short : CutShort old new answer
  pub asked : after ≡ before ++ requests_of (answer ∷ [])

-- behind the bytes before, the session took this piece, and gave the answers to the requests that it ends
pub record Takes (old new : Moment) (pending : Pending) (before piece : List ℕ) : Type 0 where
  pub answers : List Answer
  pub answered : Answered old new answers
  pub holds : HoldsLast pending (before ++ piece)
  pub asked : ended_requests (before ++ piece) ≡ ended_requests before ++ requests_of answers

-- behind the bytes before, the session took a front of this piece, and stopped in the answer to a request that it ends
pub record Stops (old new : Moment) (before piece : List ℕ) : Type 0 where
  pub front : List ℕ
  pub back : List ℕ
  pub whole : piece ≡ front ++ back
  pub mid : Moment
  pub answers : List Answer
  pub answer : Answer
  pub answered : Answered old mid answers
  pub cut_short : CutShort mid new answer
  pub asked : ended_requests (before ++ front) ≡ ended_requests before ++ requests_of (answers ++ answer ∷ [])

-- a proper front of the bytes was written
pub record WritesFront (old new : Option (List ℕ)) (bytes : List ℕ) : Type 0 where
  pub front : List ℕ
  pub rest : List ℕ
  pub whole : bytes ≡ front ++ rest
  pub missing : 0 < length rest
  pub written : Grows old new front

-- at the end of the input the session gave the answer to the request that this ends, if there is one
abbrev pub Finishes : Moment → Moment → List ℕ → Type 0
Finishes old new before = Replied old new (ended_requests before) (requests before)

-- at the end of the input the session stopped in the answer to the request that this ends
abbrev pub FinishesShort : Moment → Moment → List ℕ → Type 0
FinishesShort old new before = StopsIn old new (ended_requests before) (requests before)

-- the session ended so, with these bytes read, and the input ended or not
pub record Concludes (old new : Moment) (read : List ℕ) (ended : Bool) (end : End) : Type 0 where
  pub answers : List Answer
  pub cut : Option Answer
  pub mid : Moment
  pub answered : Answered old mid answers
  pub cut_short : MatchOption cut (new ≡ mid) (CutShort mid new)
  pub asked : HasAsked end ended read (requests_of (answers ++ option_to_list cut)) cut

-- what a source tells of the bytes given and left, when it has given these
pub record Gives (given_before given_now left_before left_now : Option (List ℕ)) (read : List ℕ) : Type 0 where
  pub given : Grows given_before given_now read
  pub left : Shrinks left_before left_now read
