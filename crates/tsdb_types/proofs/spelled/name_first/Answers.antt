use Rattle.std.proofs.Common.{sym, ◌∙◌}
use Rattle.tsdb_types.specs.Series.{is_one_of}
use Rattle.tsdb_types.proofs.SpelledLemmas.{name-first, open-front, broken-rest}
use Rattle.tsdb_types.proofs.spelled.name_first.Goals as goal

pub returns-then-is_open-clause-none : goal.returns-then-is_open-clause-none
returns-then-is_open-clause-none c =
    open-front (is_one_of c.args.ends.now) c.requires.slash c.requires.newline c.args.text.now c.cut_name.result.0.now c.cut_name.ensures.front (c.is_open.ensures.open c.if-is_open.true)

pub returns-then-is_broken-clause-none : goal.returns-then-is_broken-clause-none
returns-then-is_broken-clause-none c =
    broken-rest (is_one_of c.args.ends.now) c.requires.slash c.requires.newline c.args.text.now c.cut_name.result.1.now c.cut_name.ensures.rest (sym c.is_broken.ensures ∙ c.if-is_broken.true)

pub returns-clause-found : goal.returns-clause-found
returns-clause-found c =
    let closed = c.is_open.ensures.closed c.if-is_open.false in
    name-first (is_one_of c.args.ends.now) c.requires.slash c.requires.newline c.args.text.now c.cut_name.result.0.now c.cut_name.result.1.now c.cut_name.ensures.front c.cut_name.ensures.rest
    closed.0 closed.1 (sym c.is_broken.ensures ∙ c.if-is_broken.false)
