use Rattle.line_protocol.proofs.LineLemmas.{cut-at, cut-none}
use Rattle.line_protocol.proofs.points.is_marked.Goals as goal

pub returns-in-None : goal.returns-in-None
returns-in-None c = λ field. cut-none c.args.series.now field (c.in-None.ensures.none field).first

pub returns-in-Some : goal.returns-in-Some
returns-in-Some c = λ field. cut-at c.args.series.now field c.in-Some._at c.in-Some.ensures.found (c.in-Some.ensures.first field).stands
