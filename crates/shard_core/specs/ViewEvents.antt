-- What do views and the removal of files make of the state?
use Rattle.std.specs.Prelude.{◌≡◌, ◌⊎◌, ℕ, ◌+◌, ◌-◌, ◌<◌, ◌==◌, ◌&&◌, nat_lt, Bool, true, not, List, ◌∷◌, ◌++◌, map, filter, None}
use Rattle.shard_core.specs.Numbers.{count}
use Rattle.shard_core.specs.Files.{file_number}
use Rattle.shard_core.specs.Shown.{contents_of}
use Rattle.shard_core.specs.State.{Core, View, last_of}

-- the view of this moment: all contents, and the number of the last entry
abbrev pub view_of : Core → List ℕ → View
view_of core held = record { number = last_of core; contents = contents_of core; held = held }

-- each file that the view holds has a hold more
abbrev pub with_view : View → Core → Core
with_view view core = record core { views = view ∷ core.views; holds = λ n. core.holds n + count n view.held }

-- a view of this moment holds some of the files, and each of these gets a hold
pub record BeginsView (old new : Core) : Type 0 where
  pub held : List ℕ
  pub present : (n : ℕ) → 0 < count n held → 0 < count n (map file_number old.files)
  pub same : new ≡ with_view (view_of old held) old

-- the view goes with its holds
pub record EndsView (old new : Core) : Type 0 where
  pub view : View
  pub earlier : List View
  pub others : List View
  pub listed : old.views ≡ earlier ++ view ∷ others
  pub same : new ≡ record old { views = earlier ++ others; holds = λ n. old.holds n - count n view.held }

-- a file that nobody holds, and that the removals reached
abbrev pub is_gone : (ℕ → ℕ) → (ℕ → Bool) → ℕ → Bool
is_gone holds reached n = (holds n == 0) && reached n

-- Where no edit is in doubt, exactly the condemned files go that nobody holds; where a removal failed, of these those below it.
pub record Purges (old new : Core) : Type 0 where
  pub settled : old.edit ≡ None
  pub reached : ℕ → Bool
  pub is : ((n : ℕ) → reached n ≡ true) ⊎ ((failed : ℕ) × ((n : ℕ) → reached n ≡ (nat_lt n failed)))
  pub same : new ≡ record old { condemned = filter (λ n. not (is_gone old.holds reached n)) old.condemned }
