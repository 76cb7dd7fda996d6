-- What do sessions over one history come to, each over a store of its own?
use Rattle.std.specs.Prelude.{◌≡◌, ℕ, ◌+◌, ◌≤◌, Bool, List, [], ◌∷◌, map, Option, IsPermutation}
use Rattle.std.specs.List.{flat_map}
use Rattle.point_model.specs.declared.entry.Entry.{Entry}
use Rattle.point_model.specs.Histories.{State}
use Rattle.store_trait.specs.Told.{Limits, IsLater}
use Rattle.session_model.specs.Explained.{Transcript, Dialogue, ExplainedBut, numbers_from}
use Rattle.session_loop.specs.Sessions.{IsDialogue}
use Rattle.session_loop.specs.Steps.{Stored, HasCause}

-- a session: what its store told before and since, what it left, and what its client was answered
pub record Part : Type 0 where
  pub old : Stored
  pub new : Stored
  pub transcript : Transcript
  pub dialogue : Dialogue

-- what the stores have in common
pub record Whole : Type 0 where
  pub start : State
  pub tells : Bool
  pub limits : Option Limits
  -- as many series as any of them told, or more
  pub series : ℕ
  pub history : List Entry

-- The store of the session was the client's of this number, had no entry of its own before, and knew a front of the history.
pub record IsPart (whole : Whole) (client : ℕ) (part : Part) : Type 0 where
  pub is : IsDialogue part.old part.new part.transcript part.dialogue
  pub whose : part.new.told.client ≡ client
  pub none_own : part.old.told.own ≡ []
  pub start : whole.start ≡ part.new.told.start
  pub tells : whole.tells ≡ part.new.told.tells
  pub limits : whole.limits ≡ part.new.told.limits
  pub series : part.new.told.series ≤ whole.series
  pub knew : IsLater part.new.told.history whole.history

-- the same of several sessions, whose clients are numbered from this one on
abbrev pub AreParts : Whole → ℕ → List Part → Type 0
AreParts whole client [] = Unit {0}
AreParts whole client (part ∷ parts) = IsPart whole client part × AreParts whole (client + 1) parts

-- Where the own numbers of all stores are those of the history, each once, the history explains what all clients were told.
abbrev pub SessionsCompose : Type 0
SessionsCompose = (whole : Whole) (parts : List Part) → AreParts whole 0 parts
    → IsPermutation (flat_map (λ part. part.new.told.own) parts) (numbers_from (whole.start.number + 1) whole.history)
    → ExplainedBut whole.tells (HasCause whole.tells whole.limits whole.series whole.start) whole.start whole.history (map (λ part. part.transcript) parts)
