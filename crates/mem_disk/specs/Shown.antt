-- That a disk in memory leaves no less than what a crash may leave.
use Rattle.std.specs.Prelude.{◌≡◌, ◌⊎◌, ℕ, ◌-◌, ◌^◌, ◌<◌, Bool, true, false, List, None}
use Rattle.std.specs.FinMap.{get}
use Rattle.shard_disk.specs.Crash.{Crashes, Follows, Same}
use Rattle.shard_disk.specs.Directory.{Directory, Appears, ChangesAt}

-- each outcome of the step, from each directory that a crash before might have left, is one that a crash now may leave
abbrev pub Shows : (Directory → Directory → Type 0) → Crashes → Crashes → Type 0
Shows step old new = (d c : Directory) → old.now d → step d c → new.now c

-- One call was made, and what a crash may leave is this step of what one before might have left: no more and no less.
pub record LeavesExactly (step : Directory → Directory → Type 0) (old new : Crashes) : Type 0 where
  pub follows : Follows step old new
  pub shows : Shows step old new

-- the same of a call that makes no step where memory is wanting
pub record LeavesBut (is_memory : Bool) (step : Directory → Directory → Type 0) (old new : Crashes) : Type 0 where
  pub follows : Follows step old new
  pub shows : is_memory ≡ false → Shows step old new

-- An adoption was begun: a crash may leave the file, whole, and where it was refused also no file. Where no number is left
-- there is none to begin.
pub record Offers (is_memory is_refused : Bool) (number : ℕ) (bytes : List ℕ) (old new : Crashes) : Type 0 where
  pub appears : is_memory ≡ false → number < 2 ^ 32 - 1 → Shows (ChangesAt number (Appears bytes)) old new
  pub left_out : is_refused ≡ true → Shows Same old new

-- a directory in which this file is as it reads, or isn't there
abbrev pub HasAsRead : ℕ → Directory → Directory → Directory → Type 0
HasAsRead number files d c = (c ≡ d) × ((get c number ≡ None) ⊎ (get c number ≡ get files number))
