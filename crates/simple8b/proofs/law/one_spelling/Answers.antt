use Rattle.simple8b.proofs.Spelling.{apart, counted}
use Rattle.simple8b.proofs.law.one_spelling.Goals as goal

pub returns-clause-apart : goal.returns-clause-apart
returns-clause-apart c = apart

pub returns-clause-counted : goal.returns-clause-counted
returns-clause-counted c = counted
