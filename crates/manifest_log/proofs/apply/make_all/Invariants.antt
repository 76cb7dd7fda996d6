use Rattle.std.proofs.Common.{◌≡◌, drop}
use Rattle.manifest_log.specs.Edits.{all_changed}
use Rattle.manifest_log.proofs.apply.make_all.Given as goal

abbrev pub invariant-loop-change : goal.invariant-loop-change
invariant-loop-change l = all_changed l.initial.directory l.changes ≡ all_changed l.directory (drop l.change-index l.changes)
