use Rattle.std.proofs.Common.{rules}
use Rattle.history_turn.proofs.RuleLemmas.{advances}
use Rattle.history_turn.proofs.turn.Turn.advance.Goals as goal

pub store-requires : goal.store-requires
store-requires g c = (search rules, search rules, advances _ _ _ _ _ _ _ _ _ _ c.requires.with_turn.0 c.requires.with_turn.1 c.requires.number)
