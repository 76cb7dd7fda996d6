use Rattle.std.proofs.Common.{sym}
use Rattle.series_index.proofs.FilterLemmas.{not_found}
use Rattle.series_index.proofs.among.is_among.Goals as goal

pub returns-in-Err : goal.returns-in-Err
returns-in-Err c = sym (not_found c.args.others.now c.args.id c.in-Err.field-0 c.requires c.in-Err.ensures.position)
