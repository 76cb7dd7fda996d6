use Rattle.gate_log.proofs.Unique.{one_list, one_log, undamaged, one_damage}
use Rattle.gate_log.proofs.laws.one_list.Goals as goal

pub returns-clause-gated : goal.returns-clause-gated
returns-clause-gated c = one_list

pub returns-clause-log : goal.returns-clause-log
returns-clause-log c = one_log

pub returns-clause-undamaged : goal.returns-clause-undamaged
returns-clause-undamaged c = undamaged

pub returns-clause-one_damage : goal.returns-clause-one_damage
returns-clause-one_damage c = one_damage
