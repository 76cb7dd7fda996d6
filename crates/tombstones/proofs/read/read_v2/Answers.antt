use Rattle.tombstones.proofs.ReadLemmas.{cut_reads, whole_reads, answers}
use Rattle.tombstones.proofs.read.read_v2.Goals as goal

pub returns-in-Some-clause-damaged : goal.returns-in-Some-clause-damaged
returns-in-Some-clause-damaged c = λ damage is. cut_reads c.args.file c.args.bytes.now c.in-Some.tombs.now damage c.in-Some.ensures.found (c.read_tombs.ensures.damaged damage is)

pub returns-in-Some-clause-only : goal.returns-in-Some-clause-only
returns-in-Some-clause-only c = answers c.args.file c.args.bytes.now c.read_tombs.result (whole_reads c.args.file c.args.bytes.now c.in-Some.tombs.now c.read_tombs.result c.in-Some.ensures.found c.read_tombs.ensures.found) (λ damage is. cut_reads c.args.file c.args.bytes.now c.in-Some.tombs.now damage c.in-Some.ensures.found (c.read_tombs.ensures.damaged damage is))
