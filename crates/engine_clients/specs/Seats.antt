-- What becomes of a client and its pass while it is served beside others? Of these `Served` and `Seat` alone stand in public clauses.
use Rattle.std.specs.Prelude.{◌≡◌, ℕ, ◌+◌, false, List, [], ◌++◌, All, Option, Some, None, IsSomeAnd}
use Rattle.std.specs.List.{flat_map}
use Rattle.std.specs.Option.{option_map_or}
use Rattle.atomic_table.specs.Seated.{TableId}
use Rattle.shard_disk.specs.declared.disk.Disk.{Ghosts}
use Rattle.session_io.specs.declared.client.Client.{Client}
use Rattle.session_io.specs.declared.report.Report.{Report}
use Rattle.history_turn.specs.Histories.{StartsWith}
use Rattle.history_turn.specs.Owned.{weigh}
use Rattle.history_turn.specs.Passes.{Known}
use Rattle.session_loop.specs.Sessions.{IsSession}
use Rattle.session_loop.specs.Steps.{Stored}
use Rattle.shard_steps.specs.declared.facts.Facts.{Facts}
use Rattle.shard_steps.specs.declared.shard.Shard.{Shard}
use Rattle.shard_shared.specs.Told.{EngineView, health_by, told_over}
use Rattle.shard_shared.specs.declared.engine.Entered.{Entered}
use Rattle.shard_shared.specs.declared.engine.Lent.{Lent}
use Rattle.engine_session.specs.Devices.{Devices, told_by}
use Rattle.engine_session.specs.Ends.{EndsBy}
use Rattle.engine_clients.specs.declared.client.Seated.{Seated}

-- a pass over an engine on a disk of this type
abbrev pub Seat : Type 0 → Type 0
Seat D = Known (Option (Shard D)) Entered Lent Facts

-- a client that is served over such a pass
abbrev pub Served : Type 0 → Type 0 → Type 0 → Type 0 → Type 0
Served D S K C = Seated S K C (Seat D)

-- what the store of the client of this number tells over its pass, and its health
abbrev pub stored_by : {D R W : Type 0} → Ghosts D R W → ℕ → EngineView D → Stored
stored_by g client view = record { told = told_over client view; health = health_by g view }

-- The client of this number had a session over its pass, and the session's end has its cause.
pub record IsServedBy {D R W S K C : Type 0} (g : Ghosts D R W) (members : Devices S K C) (client : ℕ) (before now : EngineView D) (old new : Client S K C) (report : Report) : Type 0 where
  pub session : IsSession (told_by members old) (told_by members new) (stored_by g client before) (stored_by g client now) report
  pub ends : EndsBy members.ended members.source_health members.sink_health old.source new.source old.sink new.sink report

-- a pass of this turn is there, and hasn't the turn
abbrev pub IsOfTurn : {D : Type 0} → TableId → Option (Seat D) → Type 0
IsOfTurn turn pass = IsSomeAnd pass (λ seat. (seat.turn ≡ turn) × (seat.view.has_turn ≡ false))

-- the same of a pass without a loan
abbrev pub IsSeated : {D : Type 0} → TableId → Option (Seat D) → Type 0
IsSeated turn pass = IsSomeAnd pass (λ seat. (seat.turn ≡ turn) × (seat.view.has_turn ≡ false) × (seat.view.loans ≡ []))

-- The client of this number was served over its pass, which is of the same turn and has the parts that it had, and the report is kept.
pub record ServesOne {D R W S K C : Type 0} (g : Ghosts D R W) (members : Devices S K C) (client : ℕ) (old new : Served D S K C) : Type 0 where
  pub before : Seat D
  pub now : Seat D
  pub report : Report
  pub had : old.pass ≡ Some before
  pub has : new.pass ≡ Some now
  pub turn : now.turn ≡ before.turn
  pub without_turn : now.view.has_turn ≡ false
  pub parts : now.view.parts ≡ before.view.parts
  pub reported : new.report ≡ Some report
  pub served : IsServedBy g members client before.view now.view old.client new.client report

module _ {D S K C : Type 0} where
  abbrev pub seated_with : Seat D → Served D S K C → Served D S K C
  seated_with seat client = record client { pass = Some seat }

  abbrev pub unseated : Served D S K C → Served D S K C
  unseated client = record client { pass = None }

  -- what the pass of a client owns and has seen; nothing where it has none
  abbrev pub own_of : Served D S K C → List ℕ
  own_of client = option_map_or (λ (seat : Seat D). seat.view.own) client.pass []

  abbrev pub loans_of : Served D S K C → List Lent
  loans_of client = option_map_or (λ (seat : Seat D). seat.view.loans) client.pass []

  abbrev pub parts_of : Served D S K C → ℕ
  parts_of client = option_map_or (λ (seat : Seat D). seat.view.parts) client.pass 0

  abbrev pub seen_of : Served D S K C → List Entered
  seen_of client = option_map_or (λ (seat : Seat D). seat.view.seen) client.pass []

  -- the first pass took those of these clients in
  pub record JoinsAll (first : Seat D) (clients : List (Served D S K C)) (now : Seat D) : Type 0 where
    pub turn : now.turn ≡ first.turn
    pub without_turn : now.view.has_turn ≡ false
    pub start : now.view.start ≡ first.view.start
    pub parts : now.view.parts ≡ first.view.parts + weigh parts_of clients
    pub own : now.view.own ≡ first.view.own ++ flat_map own_of clients
    pub loans : now.view.loans ≡ first.view.loans ++ flat_map loans_of clients
    pub seen : All (λ client. StartsWith now.view.seen (seen_of client)) clients
