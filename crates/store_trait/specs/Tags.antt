-- Which keys do the tags of a series have?
use Rattle.std.specs.Prelude.{◌≡◌, ℕ, false, List, [], ◌∷◌, ◌++◌, map, All, Any}
use Rattle.tsdb_types.specs.Names.{IsName}
use Rattle.tsdb_types.specs.Series.{tag_ends_at, series_text}
use Rattle.tsdb_types.specs.Spelled.{unescaped}
use Rattle.tsdb_types.specs.declared.tag.Tag.{Tag}
use Rattle.point_model.specs.Tags.{front, rest, parts_behind}

-- the series of some measurement and tags, one of which has this key
pub record IsTagKeyOf (key series : List ℕ) : Type 0 where
  pub measurement : List ℕ
  pub tags : List Tag
  pub named : IsName measurement
  pub tags_named : All (λ tag. IsName tag.key × IsName tag.value) tags
  pub spelled : series ≡ series_text measurement tags
  pub has : Any (λ tag. tag.key ≡ key) tags

-- the key of a tag as it stands in a series
abbrev pub tag_key : List ℕ → List ℕ
tag_key part = unescaped tag_ends_at (front 61 false part)

-- the keys of the tags of a series, in their order
abbrev pub keys_in : List ℕ → List (List ℕ)
keys_in series = map tag_key (parts_behind 44 (rest 44 false series))

-- the keys of the tags of these series, one series after another
abbrev pub keys_within : List (List ℕ × List ℕ) → List (List ℕ)
keys_within [] = []
keys_within (entry ∷ entries) = keys_in entry.0 ++ keys_within entries
