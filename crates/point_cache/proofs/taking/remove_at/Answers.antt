use Rattle.std.proofs.Common.{sym, ◌∙◌}
use Rattle.point_cache.specs.Staged.{entries_of}
use Rattle.point_cache.proofs.TakeLemmas.{removes_all, removes_part, nothing_long}
use Rattle.point_cache.proofs.taking.remove_at.Goals as goal

pub drop_key-requires : goal.drop_key-requires
drop_key-requires c = λ entry at. nothing_long entry.1.live (sym (c.cut_run-taken.ensures.left entry at) ∙ c.if-left-eq0.true)

pub returns-then-left-eq0-clause-removes : goal.returns-then-left-eq0-clause-removes
returns-then-left-eq0-clause-removes c =
    removes_all c.args.key.now c.args.from c.args.to c.args.place (entries_of c.args.map.now.entries) (entries_of c.cut_run-taken.new.map.entries) (entries_of c.drop_key.new.map.entries) c.requires c.cut_run-taken.ensures.apart c.cut_run-taken.ensures.changed c.drop_key.ensures

pub returns-clause-removes : goal.returns-clause-removes
returns-clause-removes c =
    removes_part c.args.key.now c.args.from c.args.to c.args.place (entries_of c.args.map.now.entries) (entries_of c.cut_run-taken.new.map.entries) c.cut_run-taken.result.1 c.requires c.cut_run-taken.ensures.apart c.cut_run-taken.ensures.changed c.if-left-eq0.false c.cut_run-taken.ensures.left
