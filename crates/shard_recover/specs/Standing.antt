-- For what do the files of a directory stand, as they read?
use Rattle.std.specs.Prelude.{◌≡◌, ◌⊎◌, ℕ, List, []}
use Rattle.shard_disk.specs.Directory.{Directory}
use Rattle.point_model.specs.Histories.{State, nothing}
use Rattle.manifest_log.specs.Reading.{IsFresh}
use Rattle.shard_state.specs.Meaning.{IsSound, Meaning, Says, state_of}

-- Each file that is named says its part, the parts hold together, and they are this state and these series. A log may end without a
-- closed gate: an engine closes it before it adds to it.
pub record AreRead (files : Directory) (state : State) (series : List (List ℕ)) : Type 0 where
  pub meaning : Meaning
  pub says : Says files meaning
  pub sound : IsSound meaning
  pub is : state ≡ state_of meaning
  pub series_are : series ≡ meaning.series

-- The files stand for the state, and their points are of these series. Where nothing is named yet they stand for no points.
abbrev pub Stood : Directory → State → List (List ℕ) → Type 0
Stood files state series = (IsFresh files × (state ≡ nothing) × (series ≡ [])) ⊎ AreRead files state series
