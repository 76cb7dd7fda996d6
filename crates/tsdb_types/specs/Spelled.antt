-- Which name a part of a key spells, and which text begins with a name or a tag that is spelled.
use Rattle.std.specs.Prelude.{◌≡◌, ℕ, Bool, true, false, not, ◌&&◌, ◌||◌, ◌==◌, List, [], ◌∷◌, ◌++◌, All, if◌then◌else◌}
use Rattle.tsdb_types.specs.Names.{IsName}
use Rattle.tsdb_types.specs.Series.{escaped, tag_ends_at, tags_text, Ascend}
use Rattle.tsdb_types.specs.declared.tag.Tag.{Tag}

-- the text begins with a byte that the test picks
abbrev pub begins_with : (ℕ → Bool) → List ℕ → Bool
begins_with picks [] = false
begins_with picks (byte ∷ text) = picks byte

-- the name that a part spells: without each backslash right before a byte that the test picks; any other backslash stands for itself
abbrev pub unescaped : (ℕ → Bool) → List ℕ → List ℕ
unescaped picks [] = []
unescaped picks (byte ∷ text) = if (byte == 92) && begins_with picks text then unescaped picks text else byte ∷ unescaped picks text

-- a newline stops the spelling of a name, and so does a byte that the test picks where no backslash stands right before it
abbrev pub stops_name : (ℕ → Bool) → Bool → ℕ → Bool
stops_name picks slash byte = (byte == 10) || (picks byte && not slash)

-- the front of a text up to where a name stops; whether a backslash stands right before the first byte is told by `slash`
abbrev pub name_front : (ℕ → Bool) → Bool → List ℕ → List ℕ
name_front picks slash [] = []
name_front picks slash (byte ∷ text) = if stops_name picks slash byte then [] else byte ∷ name_front picks (byte == 92) text

-- what stands from there on
abbrev pub name_rest : (ℕ → Bool) → Bool → List ℕ → List ℕ
name_rest picks slash [] = []
name_rest picks slash (byte ∷ text) = if stops_name picks slash byte then byte ∷ text else name_rest picks (byte == 92) text

-- a name may end before this text: it is empty, or begins with a byte that the test picks
abbrev pub EndsName : (ℕ → Bool) → List ℕ → Type 0
EndsName picks [] = Unit {0}
EndsName picks (byte ∷ text) = picks byte ≡ true

-- the text begins with the spelling of a name, and the name ends there
pub record IsNameFirst (picks : ℕ → Bool) (spelled rest text : List ℕ) : Type 0 where
  pub name : List ℕ
  pub named : IsName name
  pub spelling : spelled ≡ escaped picks name
  pub whole : text ≡ spelled ++ rest
  pub ends : EndsName picks rest

-- the text begins with a tag as a key spells it, with this spelling of the tag's key, and the tag ends there
pub record IsTagFirst (spelled rest text : List ℕ) : Type 0 where
  pub tag : Tag
  pub named : IsName tag.key × IsName tag.value
  pub spelling : spelled ≡ escaped tag_ends_at tag.key
  pub whole : text ≡ tags_text (tag ∷ []) ++ rest
  pub ends : EndsName tag_ends_at rest

-- the tags of some series, as its key has them behind the measurement
pub record IsTagsText (text : List ℕ) : Type 0 where
  pub tags : List Tag
  pub named : All (λ tag. IsName tag.key × IsName tag.value) tags
  pub ascend : Ascend tags
  pub spelled : text ≡ tags_text tags
