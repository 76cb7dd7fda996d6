-- Which name a part of a line spells, and how a tag and a field are cut at their equals sign.
use Rattle.std.specs.Prelude.{ℕ, Bool, false, not, ◌&&◌, ◌==◌, List, [], ◌∷◌, length}
use Rattle.line_protocol.specs.Parts.{front, rest}
pub use Rattle.tsdb_types.specs.Spelled.{begins_with, unescaped}

-- the text without its first byte
abbrev pub behind_first : List ℕ → List ℕ
behind_first [] = []
behind_first (byte ∷ text) = text

-- what stands before the first equals sign that no backslash stands before
abbrev pub key_part : List ℕ → List ℕ
key_part part = front 61 false part

-- what stands behind that equals sign; nothing where there is none
abbrev pub value_part : List ℕ → List ℕ
value_part part = behind_first (rest 61 false part)

-- a key, an equals sign, and a value without a further one; neither is empty
abbrev pub is_tag : List ℕ → Bool
is_tag part = not (length (key_part part) == 0) && (not (length (value_part part) == 0) && (length (rest 61 false (value_part part)) == 0))
