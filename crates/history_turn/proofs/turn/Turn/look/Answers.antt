use Rattle.std.proofs.Common.{rules}
use Rattle.history_turn.proofs.RuleLemmas.{looks}
use Rattle.history_turn.proofs.turn.Turn.look.Goals as goal

pub load-requires : goal.load-requires
load-requires g c = (search rules, search rules, looks _ _ _ _ _ _ _ _ c.requires.part)
