-- A reply that was written is an answer to the request that asks for it.
use Rattle.std.proofs.Common.{◌≡◌, ◌+◌, ◌-◌, ◌^◌, ℕ, ℤ, min, max, fold, List, sym, ◌∙◌, subst, Option, Result, Ok, Err, IfOk}
use Rattle.std.specs.Option.{option_to_list}
use Rattle.std.specs.declared.alloc.AllocError.{AllocError}
use Rattle.session_io.specs.Streams.{Grows}
use Rattle.session_model.specs.declared.statement.Statement.{Statement}
use Rattle.session_model.specs.Lines.{Request}
use Rattle.session_model.specs.Lines.Request.{Line, Batch}
use Rattle.session_model.specs.Requests.{Means}
use Rattle.session_model.specs.Replies.{Reply, text}
use Rattle.session_loop.specs.declared.gathering.Gathering.{Gathering}
use Rattle.session_loop.specs.LineAsItComes.{StandsFor}
use Rattle.session_loop.specs.Gathered.{Gathers}
use Rattle.session_loop.specs.Steps.{Stored, Step, ServesRead, ReadMeans, answer_to}
use Rattle.session_loop.specs.Progress.{Saying, Answers, BreaksOff, WritesFront}

-- the reply whose text the bytes are
record Said (old : Stored) (bytes : List ℕ) (number : Option ℕ) (new : Stored) (request : Request) (at : ℤ) : Type 0 where
  reply : Reply
  spelled : bytes ≡ text reply
  step : Step old (answer_to request at reply number) new

said : (old : Stored) (asked : Result Statement AllocError) (bytes : List ℕ) (number : Option ℕ) (new : Stored) → ServesRead old asked bytes number new
    → (request : Request) (at : ℤ) → ReadMeans asked request at → Said old bytes number new request at
said old (Ok asks) bytes number new serves request at means = record { reply = serves.reply; spelled = serves.spelled; step = serves.step request at means }
said old (Err error) bytes number new serves request at means = record { reply = serves.0; spelled = serves.1; step = serves.2 request at }

pub answers : (a b : Saying) (asked : Result Statement AllocError) (bytes : List ℕ) (number : Option ℕ) → ServesRead a.store asked bytes number b.store
    → Grows a.written b.written bytes → b.replies ≡ min (a.replies + 1) (2 ^ 64 - 1) → b.last ≡ fold max a.last (option_to_list number)
    → (request : Request) (at : ℤ) → ReadMeans asked request at → Answers a b request at
answers a b asked bytes number serves written replies last request at means =
    let it = said a.store asked bytes number b.store serves request at means in
    record {
      reply = it.reply;
      number = number;
      step = it.step;
      written = subst (λ (l : List ℕ). Grows a.written b.written l) it.spelled written;
      replies = replies;
      last = last;
    }

pub breaks_off : (a b : Saying) (asked : Result Statement AllocError) (bytes : List ℕ) (number : Option ℕ) → ServesRead a.store asked bytes number b.store
    → WritesFront a.written b.written bytes → b.replies ≡ a.replies → b.last ≡ fold max a.last (option_to_list number)
    → (request : Request) (at : ℤ) → ReadMeans asked request at → BreaksOff a b request at
breaks_off a b asked bytes number serves front replies last request at means =
    let it = said a.store asked bytes number b.store serves request at means in
    record {
      reply = it.reply;
      number = number;
      step = it.step;
      part = front.front;
      rest = front.rest;
      whole = sym it.spelled ∙ front.whole;
      missing = front.missing;
      written = front.written;
      replies = replies;
      last = last;
    }

pub line_means : (asked : Result Statement AllocError) (line text : List ℕ) (moment : ℤ) → IfOk asked (λ asks. (whole : List ℕ) → StandsFor 65536 line whole → Means (Line whole) moment asks)
    → StandsFor 65536 line text → ReadMeans asked (Line text) moment
line_means (Ok asks) line text moment means stands = means text stands
line_means (Err error) line text moment means stands = tt

pub batch_means : (asked : Result Statement AllocError) (batch : Gathering) (count : ℕ) (lines : List (List ℕ)) (rest : List ℕ) (moment : ℤ)
    → IfOk asked (λ asks. (n : ℕ) (all : List (List ℕ)) (behind : List ℕ) → Gathers batch n all behind → Means (Batch n all behind) moment asks)
    → Gathers batch count lines rest → ReadMeans asked (Batch count lines rest) moment
batch_means (Ok asks) batch count lines rest moment means gathers = means count lines rest gathers
batch_means (Err error) batch count lines rest moment means gathers = tt
