use Rattle.shard_recover.proofs.StandingLemmas as standing
use Rattle.shard_recover.proofs.laws.sound_directories_are_undamaged.Goals as goal

pub returns-clause-stood : goal.returns-clause-stood
returns-clause-stood g c = standing.sound_stands g.D.Disk

pub returns-clause-none : goal.returns-clause-none
returns-clause-none g c = standing.sound_undamaged g.D.Disk
