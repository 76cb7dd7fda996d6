use Rattle.std.proofs.Common.{[], sym, ◌∙◌, append-nil}
use Rattle.line_protocol.specs.Kinds.{seen_of}
use Rattle.line_protocol.proofs.LineLemmas.{line-skipped, any-ok, any-refused}
use Rattle.line_protocol.proofs.line.read_any_line.Goals as goal

pub returns-then-is_skipped-clause-ok : goal.returns-then-is_skipped-clause-ok
returns-then-is_skipped-clause-ok c =
    ([], sym (append-nil c.args.points.now), line-skipped (seen_of c.args.reader.now.kinds) c.args.moment c.args.line.now (sym c.is_skipped.ensures ∙ c.if-is_skipped.true))

pub returns-clause-ok : goal.returns-clause-ok
returns-clause-ok c =
    any-ok c.read_line.result (seen_of c.args.reader.now.kinds) (seen_of c.read_line.new.reader.kinds) c.args.moment c.args.line.now c.args.points.now c.read_line.new.points
    (sym c.is_skipped.ensures ∙ c.if-is_skipped.false) c.read_line.ensures.ok

pub returns-clause-refused : goal.returns-clause-refused
returns-clause-refused c =
    any-refused c.read_line.result (seen_of c.args.reader.now.kinds) c.args.moment c.args.line.now (sym c.is_skipped.ensures ∙ c.if-is_skipped.false) c.read_line.ensures.refused
