-- What a crash leaves of other files than a log's, whether the log has a gate or not.
use Rattle.std.proofs.Common.{◌≡◌, ℕ, refl, ◌∙◌, subst}
use Rattle.shard_disk.specs.Crash.{Crashes, Leaves}
use Rattle.shard_disk.specs.Directory.{Anything, ChangesAt, Step}
use Rattle.shard_disk.proofs.Runs.{NoneBefore, joins, rests, weakens}

-- a run that changes the file alone
pub only_here : (file : ℕ) (step : Step) (old new : Crashes) → Leaves (ChangesAt file step) old new → Leaves (ChangesAt file Anything) old new
only_here file step old new run = weakens (ChangesAt file step) (ChangesAt file Anything) old new (λ d c now made. record { here = tt; others = made.others }) run

-- a run of no call
pub nowhere : (file : ℕ) (old : Crashes) → NoneBefore old → Leaves (ChangesAt file Anything) old old
nowhere file old none = rests (ChangesAt file Anything) old none (λ c now. record { here = tt; others = λ n ne. refl })

-- one such run after another
pub here_then : (file after : ℕ) (old mid new : Crashes) → after ≡ file → Leaves (ChangesAt file Anything) old mid → Leaves (ChangesAt after Anything) mid new → Leaves (ChangesAt file Anything) old new
here_then file after old mid new same first next =
    joins (ChangesAt file Anything) (ChangesAt file Anything) (ChangesAt file Anything) old mid new
    (λ d c made. made)
    (λ d c e one two. record { here = tt; others = λ n ne. two.others n ne ∙ one.others n ne })
    first
    (subst (λ (n : ℕ). Leaves (ChangesAt n Anything) mid new) same next)
