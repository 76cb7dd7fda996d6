use Rattle.std.proofs.Common.{sym, subst, ◌∙◌, [], None}
use Rattle.std.specs.Option.{option_to_list}
use Rattle.shard_disk.specs.Directory.{Directory}
use Rattle.point_model.specs.Histories.{State}
use Rattle.shard_state.specs.Crashes.{LeavesOnly}
use Rattle.shard_state.specs.History.{Ran}
use Rattle.shard_state.specs.Meaning.{Stands, StandsWithAtMost}
use Rattle.shard_state.proofs.GoingOn.{ran_begins, ran_still}
use Rattle.shard_state.proofs.Histories.{counts, has_all}
use Rattle.shard_state.proofs.laws.histories_go_on.Goals as goal

pub returns-clause-begins : goal.returns-clause-begins
returns-clause-begins g c =
    λ disk logs state leaves opened. subst (λ (s : State). Ran g.D.Disk logs s (g.D.Disk.crashes disk).moment [] [] None) (sym opened.is)
    (ran_begins g.D.Disk disk logs opened.books (subst (λ (s : State). LeavesOnly (λ (c : Directory). Stands c s) (g.D.Disk.crashes disk) (g.D.Disk.crashes logs.disk)) opened.is leaves) opened.holds)

pub returns-clause-on : goal.returns-clause-on
returns-clause-on g c =
    λ old new start since made refused doubt books ran holds same left. ran_still g.D.Disk old new start since made refused doubt ran books doubt ran.asked
    (subst (λ (s : State). LeavesOnly (StandsWithAtMost s (option_to_list doubt)) (g.D.Disk.crashes old.disk) (g.D.Disk.crashes new.disk)) (sym ran.is) left) holds (same ∙ sym ran.is)

pub returns-clause-number : goal.returns-clause-number
returns-clause-number g c = counts g.D.Disk

pub returns-clause-now : goal.returns-clause-now
returns-clause-now g c = has_all g.D.Disk
