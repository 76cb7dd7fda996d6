-- What clauses see of a pass.
use Rattle.std.specs.Prelude.{◌≡◌, ℕ, ◌<◌, ◌≤◌, [], ◌∷◌, Option, None, true, false}
use Rattle.atomic_table.specs.Seated.{TableId}
use Rattle.atomic_table.specs.declared.shared.Seat.{Seat}
use Rattle.history_turn.specs.declared.view.PassView.{PassView}

-- a pass: its turn, what it knows and owns, and the facts of the value that its last take found
pub record Known (S E L F : Type 0) : Type 0 where
  pub turn : TableId
  pub view : PassView S E L
  pub before : Option F

module _ {S E L F : Type 0} where
  -- the same pass with this view: nothing else has changed
  abbrev pub viewing : Known S E L F → PassView S E L → Known S E L F
  viewing p v = record p { view = v }

  -- a pass of the same turn, with this view, that has taken nothing
  abbrev pub fresh : Known S E L F → PassView S E L → Known S E L F
  fresh p v = record { turn = p.turn; view = v; before = None }

abbrev pub PassSeat : (X S E L : Type 0) → Type 0
PassSeat X S E L = Seat (Option X) (PassView S E L)

module _ {X S E L : Type 0} where
  -- the same seat of the same table, whatever its view
  abbrev pub IsSameSeat : PassSeat X S E L → PassSeat X S E L → Type 0
  IsSameSeat p q = (q.table_id ≡ p.table_id) × (q.id ≡ p.id)

  -- the numbers that a pass keeps are those of its view, and the slot is out with it exactly while it has the turn
  pub record IsSound (p : PassSeat X S E L) (parts faults faults_found : ℕ) : Type 0 where
    pub some_part : 0 < parts
    pub parts_are : parts ≡ p.me.0.parts
    pub faults_are : faults ≡ p.me.0.faults
    pub found_are : faults_found ≡ p.me.0.faults_found
    pub without_turn : p.me.0.has_turn ≡ false → p.me.1 ≡ []
    pub with_turn : p.me.0.has_turn ≡ true → (p.me.1 ≡ (0, None) ∷ []) × (p.me.0.faults ≤ p.me.0.faults_found)
