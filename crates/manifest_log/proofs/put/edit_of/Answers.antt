use Rattle.std.proofs.Common.{rules}
use Rattle.manifest_log.proofs.EditLemmas.{few}
use Rattle.manifest_log.proofs.put.edit_of.Goals as goal

pub overflow_cast-changes : goal.overflow_cast-changes
overflow_cast-changes c = search (rules, few c.args.changes.now c.requires)
