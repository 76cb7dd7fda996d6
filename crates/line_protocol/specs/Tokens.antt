-- How the head and the fields of a line are read from token to token.
use Rattle.std.specs.Prelude.{◌≡◌, ◌≢◌, ℕ, Bool, true, false, not, ◌&&◌, ◌==◌, None, List, [], ◌∷◌, ◌++◌, map, All, IsTrue, if◌then◌else◌}
use Rattle.std.specs.List.{list_all}
use Rattle.tsdb_types.specs.Names.{IsName}
use Rattle.tsdb_types.specs.Series.{escaped, measurement_ends_at, measurement_text, tag_ends_at, tags_text, Ascend, IsKeyOf, IsSeriesText}
use Rattle.tsdb_types.specs.Spelled.{EndsName}
use Rattle.tsdb_types.specs.declared.tag.Tag.{Tag}
use Rattle.line_protocol.specs.Heads.{head_code, measurement_part, measurement_of, tag_parts, tag_of, tags_of, has_time_tag}
use Rattle.line_protocol.specs.Names.{is_tag}
use Rattle.line_protocol.specs.Parts.{front, rest, parts_behind}

-- the front of a text up to the first byte that the test picks; none is picked where a backslash stands right before it, as `slash` says of the first
abbrev pub front_where : (ℕ → Bool) → Bool → List ℕ → List ℕ
front_where picks slash [] = []
front_where picks slash (byte ∷ text) = if picks byte && not slash then [] else byte ∷ front_where picks (byte == 92) text

-- what stands from there on
abbrev pub rest_where : (ℕ → Bool) → Bool → List ℕ → List ℕ
rest_where picks slash [] = []
rest_where picks slash (byte ∷ text) = if picks byte && not slash then byte ∷ text else rest_where picks (byte == 92) text

-- what ends a token: a comma or a space, and in a tag an equals sign too
abbrev pub token_ends : Bool → ℕ → Bool
token_ends true = tag_ends_at
token_ends false = measurement_ends_at

-- the text begins with this byte
abbrev pub starts_with : ℕ → List ℕ → Bool
starts_with byte [] = false
starts_with byte (first ∷ text) = first == byte

-- a text begins with the key of a tag, an equals sign and its value, up to a comma, a space or the end
pub record IsTagAt (text key left : List ℕ) : Type 0 where
  pub behind : List ℕ
  pub value : List ℕ
  pub key_is : key ≡ front_where tag_ends_at false text
  pub equals : rest_where tag_ends_at false text ≡ 61 ∷ behind
  pub value_is : value ≡ front_where tag_ends_at false behind
  pub left_is : left ≡ rest_where tag_ends_at false behind
  pub some_key : key ≢ []
  pub some_value : value ≢ []
  pub ends : EndsName measurement_ends_at left

-- the part that a text begins with: up to a comma, a space or the end
abbrev pub part_at : List ℕ → List ℕ
part_at text = front 44 false (front 32 false text)

-- what stands behind each comma of a text, up to the next one or to the head's end
abbrev pub parts_at : List ℕ → List (List ℕ)
parts_at text = parts_behind 44 (front 32 false text)

-- the tags that a text begins with
abbrev pub tags_at : List ℕ → List Tag
tags_at text = map (tag_of true) (parts_at text)

-- the part is a tag as a key spells it
abbrev pub SpellsTag : List ℕ → Type 0
SpellsTag part = part ≡ escaped tag_ends_at (tag_of true part).key ++ 61 ∷ escaped tag_ends_at (tag_of true part).value

-- a text begins with tags, and this stands behind them; whether a tag is named `time` is told, and that the keys ascend may be
pub record AreTags (text behind : List ℕ) (ascend reserved : Bool) : Type 0 where
  pub sound : list_all is_tag (parts_at text) ≡ true
  pub behind_is : behind ≡ rest 32 false text
  pub spelled : front 32 false text ≡ tags_text (tags_at text)
  pub named : behind ≢ [] → All (λ tag. IsName tag.key × IsName tag.value) (tags_at text)
  pub ascends : IsTrue ascend → Ascend (tags_at text)
  pub reserves : reserved ≡ has_time_tag (tags_at text)
  pub spells : All SpellsTag (parts_at text)

-- the names that a head spells are names, and it is the key of its series as it stands where its tags are told to ascend
pub record IsNamed (head measurement : List ℕ) (ascend : Bool) : Type 0 where
  pub measured : measurement ≡ measurement_text (measurement_of head)
  pub measurement_named : IsName (measurement_of head)
  pub tags_named : All (λ tag. IsName tag.key × IsName tag.value) (tags_of head)
  pub key : IsTrue ascend → IsKeyOf (measurement_of head) (tags_of head) head × IsSeriesText head

-- the parts of a line's head. At the end of a line a name may end with a backslash, and so isn't one
pub record IsWalk (line head measurement behind : List ℕ) (ascend reserved : Bool) : Type 0 where
  pub head_is : head ≡ front 32 false line
  pub sound : head_code head ≡ None
  pub measurement_is : measurement ≡ measurement_part head
  pub behind_is : behind ≡ rest 32 false line
  pub ascends : IsTrue ascend → Ascend (tags_of head)
  pub reserves : reserved ≡ has_time_tag (tags_of head)
  pub spells : All SpellsTag (tag_parts head)
  pub named : behind ≢ [] → IsNamed head measurement ascend
