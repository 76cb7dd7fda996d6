-- A name has no newline.
use Rattle.std.proofs.Common.{List, ℕ, subst}
use Rattle.tsdb_types.specs.Names.{IsName}
use Rattle.session_loop.proofs.SelectLemmas.{name_lacks}
use Rattle.session_loop.proofs.select.one_line.Goals as goal

pub returns : goal.returns
returns c = name_lacks c.args.name.now (subst (λ (t : List ℕ). IsName t) c.as_str-text.ensures.text c.as_str-text.ensures.name)
