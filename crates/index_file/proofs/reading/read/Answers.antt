use Rattle.index_file.proofs.ReadLemmas.{answers}
use Rattle.index_file.proofs.reading.read.Goals as goal

pub returns-clause-only : goal.returns-clause-only
returns-clause-only c = answers c.args.file c.args.bytes.now c.read_framed.result c.read_framed.ensures.found c.read_framed.ensures.damaged
