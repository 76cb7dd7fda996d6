use Rattle.shard_recover.proofs.NewLemmas.{nothing_opens}
use Rattle.shard_recover.proofs.CauseLemmas.{if_ok_map}
use Rattle.shard_recover.proofs.new.open_new.Goals as goal

pub returns-clause-ok : goal.returns-clause-ok
returns-clause-ok g c = if_ok_map c.create.result (λ logs opened told blank. nothing_opens g.D.Disk logs (opened told blank)) c.create.ensures.opened
