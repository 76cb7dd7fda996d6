-- By which terms is a series listed that has points in a field?
use Rattle.std.specs.Prelude.{ℕ, Bool, true, false, ◌&&◌, List, [], ◌∷◌, ◌++◌}
use Rattle.std.specs.List.{list_any}
use Rattle.std.specs.Str.{bytes_eq}
use Rattle.tsdb_types.specs.Series.{measurement_ends_at}
use Rattle.tsdb_types.specs.Spelled.{unescaped}
use Rattle.tsdb_types.specs.declared.tag.Tag.{Tag}
use Rattle.point_model.specs.Measurements.{measurement_head}
use Rattle.point_model.specs.Tags.{tags_in}
use Rattle.index_lists.specs.declared.term.Term.{Term}
use Rattle.index_lists.specs.declared.term.Term.TheVariants.{Measurement, Field, TagKey, TagValue}

-- the measurement that a series is of
abbrev pub measurement_of : List ℕ → List ℕ
measurement_of series = unescaped measurement_ends_at (measurement_head series)

-- one of the tags has this key
abbrev pub has_key : List ℕ → List Tag → Bool
has_key key tags = list_any (λ tag. bytes_eq tag.key key) tags

-- one of the tags has this key and value
abbrev pub has_value : List ℕ → List ℕ → List Tag → Bool
has_value key value tags = list_any (λ tag. bytes_eq tag.key key && bytes_eq tag.value value) tags

-- a series with points in this field is listed by the term
abbrev pub is_of : Term → List ℕ → List ℕ → Bool
is_of (Measurement measurement) series field = bytes_eq (measurement_of series) measurement
is_of (Field measurement name) series field = bytes_eq (measurement_of series) measurement && bytes_eq field name
is_of (TagKey measurement key) series field = bytes_eq (measurement_of series) measurement && has_key key (tags_in series)
is_of (TagValue measurement key value) series field = bytes_eq (measurement_of series) measurement && has_value key value (tags_in series)

-- the term names a field
abbrev pub is_field : Term → Bool
is_field (Measurement measurement) = false
is_field (Field measurement name) = true
is_field (TagKey measurement key) = false
is_field (TagValue measurement key value) = false

-- the terms of a tag
abbrev pub tag_terms : List ℕ → Tag → List Term
tag_terms measurement tag = TagKey measurement tag.key ∷ TagValue measurement tag.key tag.value ∷ []

abbrev pub tags_terms : List ℕ → List Tag → List Term
tags_terms measurement [] = []
tags_terms measurement (tag ∷ tags) = tag_terms measurement tag ++ tags_terms measurement tags

-- the terms of a series, whatever fields it has points in
abbrev pub series_terms : List ℕ → List Term
series_terms series = Measurement (measurement_of series) ∷ tags_terms (measurement_of series) (tags_in series)

-- all terms of a series and a field, that of the field first
abbrev pub terms_of : List ℕ → List ℕ → List Term
terms_of series field = Field (measurement_of series) field ∷ series_terms series
