use Rattle.tsm_format.proofs.ReadLemmas.{answers}
use Rattle.tsm_format.proofs.read.read_index.Goals as goal

pub returns-clause-only : goal.returns-clause-only
returns-clause-only c = answers c.args.file c.args.start c.args.bytes.now c.read_rows.result c.read_rows.ensures.found c.read_rows.ensures.damaged
