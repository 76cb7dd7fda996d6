use Rattle.shard_state.proofs.Ending.{sound_again}
use Rattle.shard_state.proofs.Histories.{has_entry, sound_after}
use Rattle.shard_state.proofs.laws.crashes_keep_entries.Goals as goal

pub returns-clause-prefix : goal.returns-clause-prefix
returns-clause-prefix g c = λ disk start since made refused survives. survives.each

pub returns-clause-has_entry : goal.returns-clause-has_entry
returns-clause-has_entry g c = λ disk. has_entry (g.D.Disk.crashes disk)

pub returns-clause-left : goal.returns-clause-left
returns-clause-left g c =
    let laws = g.met.D.Disk g.world.𝓛 g.world.𝓜 g.world.𝓡 ((λ s x. x), (λ x. x), (λ x. x), (λ x. x)) in
    λ logs books doubt told holds. sound_again g.D.Disk logs books doubt holds (laws.as_read logs.disk told)

pub returns-clause-opens : goal.returns-clause-opens
returns-clause-opens g c = λ disk state stands only adopted first. sound_after g.D.Disk disk only adopted first state stands
