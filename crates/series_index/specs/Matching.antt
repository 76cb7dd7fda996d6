-- Which series of a measurement meet a condition, by the ids that an index lists?
use Rattle.std.specs.Prelude.{◌≡◌, ℕ, Bool, nat_eq, List, [], ◌∷◌, if◌then◌else◌}
use Rattle.std.specs.List.{AllByRecursion, filter, list_any}
use Rattle.std.specs.Str.{bytes_eq}
use Rattle.point_model.specs.Conditions.{Condition, meets}
use Rattle.point_model.specs.Tags.{tag_text}
use Rattle.index_lists.specs.declared.term.Term.TheVariants.{Measurement}
use Rattle.index_lists.specs.Listing.{AreIdsOf, Holds, Listing}
use Rattle.index_lists.specs.Pairs.{Pair}
use Rattle.index_lists.specs.Terms.{is_of}

-- the id is one of these
abbrev pub has : List ℕ → ℕ → Bool
has ids id = list_any (nat_eq id) ids

-- the series of an id, by the pairs
abbrev pub series_in : List Pair → ℕ → List ℕ
series_in [] id = []
series_in (pair ∷ pairs) id = if nat_eq id pair.id then pair.series else series_in pairs id

-- The ids are those of the measurement's series in the content that the lists have, and each id has its series there.
pub record Told (series_of : ℕ → List ℕ) (lists : Listing) (measurement ids : List ℕ) : Type 0 where
  pub pairs : List Pair
  pub holds : Holds pairs lists
  pub series : AllByRecursion (λ pair. series_of pair.id ≡ pair.series) pairs
  pub all : AreIdsOf (is_of (Measurement measurement)) pairs ids

-- those of the ids whose series have this text in the tag with this key; a tag that a series lacks has the empty text
abbrev pub ids_with : (ℕ → List ℕ) → List ℕ → List ℕ → List ℕ → List ℕ
ids_with series_of key text ids = filter (λ id. bytes_eq (tag_text key (series_of id)) text) ids

-- those of the ids whose series meet the condition
abbrev pub matching : (ℕ → List ℕ) → Condition → List ℕ → List ℕ
matching series_of condition ids = filter (λ id. meets condition (series_of id)) ids
