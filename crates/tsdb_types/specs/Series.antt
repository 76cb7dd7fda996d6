-- How the key of a series is spelled, and which measurement a key is of.
use Rattle.std.specs.Prelude.{◌≡◌, ℕ, ◌≤◌, Bool, true, false, ◌==◌, List, [], ◌∷◌, ◌++◌, length, All, if◌then◌else◌}
use Rattle.std.specs.List.{list_any, count_by, AllAdjacentBelow}
use Rattle.std.specs.List.Sorted.{IsPermutation}
use Rattle.std.specs.Ordering.{nat_cmp}
use Rattle.std.specs.declared.cmp.Ordering.TheVariants.{Less}
use Rattle.std.specs.Cmp.Lexicographic.{slice_cmp}
use Rattle.std.specs.Str.{bytes_eq}
use Rattle.tsdb_types.specs.Names.{IsName}
use Rattle.tsdb_types.specs.declared.tag.Tag.{Tag}

-- the byte is one of these
abbrev pub is_one_of : List ℕ → ℕ → Bool
is_one_of marks byte = list_any (λ mark. mark == byte) marks

-- the text with a backslash before each byte that the test picks
abbrev pub escaped : (ℕ → Bool) → List ℕ → List ℕ
escaped picks [] = []
escaped picks (byte ∷ text) = if picks byte then 92 ∷ byte ∷ escaped picks text else byte ∷ escaped picks text

-- a comma or a space ends a measurement where no backslash stands before it
abbrev pub measurement_ends_at : ℕ → Bool
measurement_ends_at = is_one_of (44 ∷ 32 ∷ [])

-- a comma, an equals sign or a space ends the key or the value of a tag where no backslash stands before it
abbrev pub tag_ends_at : ℕ → Bool
tag_ends_at = is_one_of (44 ∷ 61 ∷ 32 ∷ [])

-- the text of a measurement, with a backslash before each comma and space
abbrev pub measurement_text : List ℕ → List ℕ
measurement_text = escaped measurement_ends_at

-- each tag behind a comma, its key and its value with an equals sign between them
abbrev pub tags_text : List Tag → List ℕ
tags_text [] = []
tags_text (tag ∷ tags) = 44 ∷ escaped tag_ends_at tag.key ++ 61 ∷ escaped tag_ends_at tag.value ++ tags_text tags

-- the measurement, then the tags in their order
abbrev pub series_text : List ℕ → List Tag → List ℕ
series_text measurement tags = measurement_text measurement ++ tags_text tags

-- the keys ascend by their bytes, and none stands twice
abbrev pub Ascend : List Tag → Type 0
Ascend tags = AllAdjacentBelow (λ tag next. slice_cmp nat_cmp tag.key next.key ≡ Less) tags (length tags)

-- no key stands twice
abbrev pub KeysDiffer : List Tag → Type 0
KeysDiffer tags = (key : List ℕ) → count_by (λ tag. bytes_eq tag.key key) tags ≤ 1

-- the key of the series of this measurement with these tags, in whatever order they are given
pub record IsKeyOf (measurement : List ℕ) (tags : List Tag) (key : List ℕ) : Type 0 where
  pub sorted : List Tag
  pub same : IsPermutation tags sorted
  pub ascend : Ascend sorted
  pub spelled : key ≡ series_text measurement sorted

-- the key of some series
pub record IsSeriesText (key : List ℕ) : Type 0 where
  pub measurement : List ℕ
  pub tags : List Tag
  pub named : IsName measurement
  pub tags_named : All (λ tag. IsName tag.key × IsName tag.value) tags
  pub ascend : Ascend tags
  pub spelled : key ≡ series_text measurement tags

-- a text is the key of one measurement and of one list of tags at most
abbrev pub ReadsOnce : Type 0
ReadsOnce =
    (measurement : List ℕ) (tags : List Tag) (other : List ℕ) (others : List Tag)
    → IsName measurement → All (λ tag. IsName tag.key × IsName tag.value) tags
    → IsName other → All (λ tag. IsName tag.key × IsName tag.value) others
    → series_text measurement tags ≡ series_text other others
    → (measurement ≡ other) × (tags ≡ others)

-- this text is the whole key, or a comma stands behind it, with which the tags begin
abbrev pub is_key_with : List ℕ → List ℕ → Bool
is_key_with [] [] = true
is_key_with [] (byte ∷ key) = byte == 44
is_key_with (byte ∷ text) [] = false
is_key_with (byte ∷ text) (first ∷ key) = if first == byte then is_key_with text key else false

-- the series with this key is one of the measurement
abbrev pub is_series_of : List ℕ → List ℕ → Bool
is_series_of measurement key = is_key_with (measurement_text measurement) key
