use Rattle.std.proofs.Common.{nat_eq, sym, ap, ◌∙◌}
use Rattle.std.specs.List.{list_any}
use Rattle.shard_recover.proofs.FileLemmas.{among, present_at}
use Rattle.shard_recover.proofs.present.is_there.Goals as goal

pub returns-clause-there : goal.returns-clause-there
returns-clause-there c = λ is files numbers. present_at files c.args.file (ap (list_any (λ y. nat_eq y c.args.file)) (sym numbers) ∙ sym c.contains.ensures.value ∙ is)

pub returns-clause-missing : goal.returns-clause-missing
returns-clause-missing c = λ not files numbers there. not (c.contains.ensures.value ∙ ap (list_any (λ y. nat_eq y c.args.file)) numbers ∙ among files c.args.file there)
