-- How a value that is held is lent.
use Rattle.std.specs.Borrow.{Lends, MutBor, Fml}
use denote.RattleType.{RattleType}
use Rattle.history_turn.specs.contracts.pass.Held.{the_row}

-- the value ends as the last one behind the reference
abbrev pub LendsValue : (R : RattleType) → MutBor R.Denot → MutBor R.Denot → Fml
LendsValue R s r = Lends (the_row R) R s r (λ w. w)
