-- What a disk tells that tells nothing of its files.
use Rattle.std.specs.Prelude.{ℕ, IsTrue, false, unwrap_or}
use Rattle.std.specs.BTreeMap.{BTreeMap, get}
use Rattle.std.specs.Ordering.{nat_cmp}
use Rattle.std.proofs.lemmas.Bool.{false≢true}
use Rattle.shard_disk.specs.Crash.{Crashes}
use Rattle.shard_disk.specs.Directory.{Directory}
use Rattle.shard_disk.specs.HandedOut.{HandedOut}
use Rattle.shard_disk.specs.Health.{Health}
use Rattle.shard_disk.specs.Stage.{Stage}
use Rattle.shard_disk.specs.Stage as stage
use Rattle.host_disk.specs.declared.writer.Progress.{Progress}
use Rattle.host_disk.specs.declared.writer.Progress.TheVariants.{Open, Finished, Refused}

-- how far a file is
abbrev pub stage_of : Progress → Stage
stage_of Open = stage.Open
stage_of Finished = stage.Finished
stage_of Refused = stage.Refused

-- The next number, and how many readers of each file are out. Which files are adopted isn't told.
abbrev pub handed_out_of : ℕ → BTreeMap ℕ ℕ → HandedOut
handed_out_of next readers = record { next_number = next; readers = λ n. unwrap_or (get nat_cmp readers n) 0; adopted = λ _. false }

-- so many faults were met, and what the system will do isn't known
abbrev pub health_of : ℕ → Health
health_of faults = record { faults = faults; is_steady = false }

-- no directory is named
unfoldable pub untold : Crashes
untold = record { now = λ _. ⊥; moment = 0; since = λ _ _. ⊥ }

pub never : IsTrue false → ⊥
never is = false≢true is

pub untold_now : (c : Directory) (t : ℕ) → untold.now c → untold.since t c
unfolding untold
untold_now c t now = now

pub untold_since : (c : Directory) → untold.since untold.moment c → untold.now c
unfolding untold
untold_since c since = since
