-- Which tags does a series have, as its text tells, and which condition does it meet?
use Rattle.std.specs.Prelude.{◌≡◌, ℕ, Bool, false, not, ◌&&◌, ◌==◌, List, [], ◌∷◌, map, All, if◌then◌else◌}
use Rattle.std.specs.List.{onto_first}
use Rattle.std.specs.Str.{bytes_eq}
use Rattle.tsdb_types.specs.Names.{IsName}
use Rattle.tsdb_types.specs.Series.{tag_ends_at, series_text}
use Rattle.tsdb_types.specs.Spelled.{unescaped}
use Rattle.tsdb_types.specs.declared.tag.Tag.{Tag}

-- the text up to a mark; a byte is no mark where a backslash stands right before it, as `slash` says of the first
abbrev pub front : ℕ → Bool → List ℕ → List ℕ
front mark slash [] = []
front mark slash (byte ∷ text) = if (byte == mark) && not slash then [] else byte ∷ front mark (byte == 92) text

-- what stands from the mark on
abbrev pub rest : ℕ → Bool → List ℕ → List ℕ
rest mark slash [] = []
rest mark slash (byte ∷ text) = if (byte == mark) && not slash then byte ∷ text else rest mark (byte == 92) text

-- what stands behind the mark that a text begins with
abbrev pub behind : List ℕ → List ℕ
behind [] = []
behind (byte ∷ text) = text

-- the parts between the marks, one more than there are marks
abbrev pub parts : ℕ → Bool → List ℕ → List (List ℕ)
parts mark slash [] = [] ∷ []
parts mark slash (byte ∷ text) =
    if (byte == mark) && not slash then [] ∷ parts mark false text else onto_first byte (parts mark (byte == 92) text)

-- the parts behind the mark that a text begins with, none where it is empty
abbrev pub parts_behind : ℕ → List ℕ → List (List ℕ)
parts_behind mark [] = []
parts_behind mark (byte ∷ text) = parts mark false text

-- the tag that a part of a series spells, its key before an equals sign and its value behind
abbrev pub tag_of : List ℕ → Tag
tag_of part = record { key = unescaped tag_ends_at (front 61 false part); value = unescaped tag_ends_at (behind (rest 61 false part)) }

-- the tags of a series, in their order, as its text has them behind commas
abbrev pub tags_in : List ℕ → List Tag
tags_in series = map tag_of (parts_behind 44 (rest 44 false series))

-- the text of the tag with this key; a tag that isn't there has the empty text
abbrev pub text_of : List ℕ → List Tag → List ℕ
text_of key [] = []
text_of key (tag ∷ tags) = if bytes_eq tag.key key then tag.value else text_of key tags

-- the text that the tag with this key has in a series
abbrev pub tag_text : List ℕ → List ℕ → List ℕ
tag_text key series = text_of key (tags_in series)

-- the text of a series tells the tags that it was made of
abbrev pub TagsAreRead : Type 0
TagsAreRead =
    (measurement : List ℕ) (tags : List Tag) → IsName measurement → All (λ tag. IsName tag.key × IsName tag.value) tags
    → tags_in (series_text measurement tags) ≡ tags
