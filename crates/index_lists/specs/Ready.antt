-- When is a change ready to be made, so that making it takes no memory?
use Rattle.std.specs.Prelude.{◌≡◌, ℕ, ◌+◌, ◌<◌, ◌≤◌, nat_eq, List, [], ◌∷◌, length, count_by, slice_get, Some, map}
use Rattle.std.specs.List.{AllByRecursion}
use Rattle.tsdb_types.specs.Series.{IsSeriesText}
use Rattle.index_lists.specs.declared.change.IndexChange.{IndexChange}
use Rattle.index_lists.specs.declared.term.Term.{Term}
use Rattle.index_lists.specs.Listing.{Listed, Listing}
use Rattle.index_lists.specs.Terms.{terms_of}

-- a change, and the places of its terms, that of its field first
pub record Prepared : Type 0 where
  pub change : IndexChange
  pub places : List ℕ

-- the terms stand at these places
abbrev pub StandAt : List Term → List Term → List ℕ → Type 0
StandAt terms wanted places = map (slice_get terms) places ≡ map (λ term. Some term) wanted

-- The terms of the change have places, and its id has a count.
pub record IsReady (listing : Listing) (prepared : Prepared) : Type 0 where
  pub terms : StandAt listing.terms (terms_of prepared.change.series prepared.change.field) prepared.places
  pub text : IsSeriesText prepared.change.series
  pub counted : prepared.change.id < length listing.counts

-- how often the place stands among those of the changes
abbrev pub uses : ℕ → List Prepared → ℕ
uses place [] = 0
uses place (prepared ∷ others) = count_by (nat_eq place) prepared.places + uses place others

-- Each change is ready, and there is room for all.
pub record AreReady (listing : Listing) (prepared : List Prepared) : Type 0 where
  pub each : AllByRecursion (IsReady listing) prepared
  pub room : (place : ℕ) (listed : Listed) → slice_get listing.lists place ≡ Some listed → uses place prepared ≤ listed.room
  pub few : length prepared ≤ listing.room
