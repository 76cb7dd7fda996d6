-- What the parts of a line are made of, so that each part that is to be a name spells one.
use Rattle.std.specs.Prelude.{◌≡◌, ◌≢◌, ℕ, ◌<◌, Bool, false, List, [], ◌∷◌, All}
use Rattle.std.specs.Str.{IsUtf8}
use Rattle.tsdb_types.specs.Names.{IsName}
use Rattle.tsdb_types.specs.Series.{escaped}
use Rattle.line_protocol.specs.Names.{unescaped}
use Rattle.line_protocol.specs.Parts.{slashed}

-- a text without a newline
pub record IsOneLine (text : List ℕ) : Type 0 where
  pub utf8 : IsUtf8 text
  pub unbroken : All (λ byte. byte ≢ 10) text

-- no backslash stands at the end
abbrev pub IsClosed : List ℕ → Type 0
IsClosed text = slashed false text ≡ false

-- the part is a text, and without its escapes a name
pub record SpellsName (picks : ℕ → Bool) (part : List ℕ) : Type 0 where
  pub utf8 : IsUtf8 part
  pub name : IsName (unescaped picks part)

-- the part spells a name, and has a backslash right before each byte that the test picks, so that no other part spells that name
pub record IsSpelling (picks : ℕ → Bool) (part : List ℕ) : Type 0 where
  pub spells : SpellsName picks part
  pub escapes : part ≡ escaped picks (unescaped picks part)

-- the text is empty, or its first byte is one of ASCII, so that a text may be cut before it
abbrev pub StartsAscii : List ℕ → Type 0
StartsAscii [] = Unit {0}
StartsAscii (byte ∷ text) = byte < 128
