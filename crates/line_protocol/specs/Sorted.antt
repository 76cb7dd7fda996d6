-- How the tags of a head are put in order, as parts of the line.
use Rattle.std.specs.Prelude.{◌≡◌, ℕ, List, [], ◌∷◌, ◌++◌, map, All}
use Rattle.std.specs.Cmp.Lexicographic.{slice_cmp}
use Rattle.std.specs.Ordering.{nat_cmp}
use Rattle.std.specs.declared.cmp.Ordering.{Ordering}
use Rattle.tsdb_types.specs.Series.{tag_ends_at}
use Rattle.tsdb_types.specs.Spelled.{unescaped}
use Rattle.line_protocol.specs.declared.sorted.Part.{Part}
use Rattle.line_protocol.specs.Names.{key_part}

-- the parts as they stand in the line
abbrev pub texts_of : List Part → List (List ℕ)
texts_of parts = map (λ part. part.text.now) parts

-- the key of each part is what stands before its equals sign
abbrev pub AreCut : List Part → Type 0
AreCut parts = All (λ part. part.key.now ≡ key_part part.text.now) parts

-- parts compare as the keys that they spell
abbrev pub part_cmp : Part → Part → Ordering
part_cmp part other = slice_cmp nat_cmp (unescaped tag_ends_at part.key.now) (unescaped tag_ends_at other.key.now)

-- each part behind a comma
abbrev pub joined : List (List ℕ) → List ℕ
joined [] = []
joined (part ∷ parts) = 44 ∷ part ++ joined parts
