-- Histories, one behind the other.
use Rattle.std.proofs.Common.{◌≡◌, ◌++◌, ◌+◌, ℕ, List, [], ◌∷◌, refl, arith, length-append}
use Rattle.point_model.specs.Points.{Points}
use Rattle.point_model.specs.declared.entry.Entry.{Entry}
use Rattle.point_model.specs.Histories.{State, after, after_entry, state_after}

pub after-append : (points : Points) (first second : List Entry) → after points (first ++ second) ≡ after (after points first) second
after-append points [] second = refl
after-append points (entry ∷ first) second = after-append (after_entry points entry) first second

-- states are equal by their parts
pub same_state : (p q : Points) (m n : ℕ) → p ≡ q → m ≡ n → (let left : State = record { points = p; number = m } in let right : State = record { points = q; number = n } in left ≡ right)
same_state p q m n points number = cc

pub state_after-append : (start : State) (first second : List Entry) → state_after start (first ++ second) ≡ state_after (state_after start first) second
state_after-append start first second =
    same_state _ _ _ _ (after-append start.points first second) (let sum = length-append first second in omega arith)

pub state_after-nil : (start : State) → start ≡ state_after start []
state_after-nil start = same_state start.points start.points start.number (start.number + 0) refl (omega arith)
