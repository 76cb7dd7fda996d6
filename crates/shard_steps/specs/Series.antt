-- Which series of a batch are new to an engine?
use Rattle.std.specs.Prelude.{◌≡◌, ℕ, Bool, not, ◌&&◌, List, [], ◌∷◌, map, if◌then◌else◌}
use Rattle.std.specs.List.{IsDistinct, list_any}
use Rattle.std.specs.Str.{bytes_eq}
use Rattle.indexmap.specs.IndexSet.{insert_key}
use Rattle.tsdb_types.specs.declared.point.Point.{Point}

-- the text is one of these
abbrev pub is_among : List (List ℕ) → List ℕ → Bool
is_among texts text = list_any (bytes_eq text) texts

-- the series of each point
abbrev pub series_of : List Point → List (List ℕ)
series_of points = map (λ (point : Point). point.cell.series) points

-- the series of the batch that aren't held, each once
pub record AreUnheld (held : List (List ℕ)) (points : List Point) (new : List (List ℕ)) : Type 0 where
  pub distinct : IsDistinct bytes_eq new
  pub exact : (text : List ℕ) → is_among new text ≡ (is_among (series_of points) text && not (is_among held text))

-- those that are new, with this series last where it is neither held nor among them
abbrev pub noted : List (List ℕ) → List ℕ → List (List ℕ) → List (List ℕ)
noted held key new = if is_among held key then new else insert_key bytes_eq new key

-- the same of several series, one after another
abbrev pub all_noted : List (List ℕ) → List (List ℕ) → List (List ℕ) → List (List ℕ)
all_noted held [] new = new
all_noted held (key ∷ keys) new = all_noted held keys (noted held key new)
