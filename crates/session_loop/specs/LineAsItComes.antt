-- What is kept of a line while it comes?
use Rattle.std.specs.Prelude.{◌≡◌, ◌⊎◌, ℕ, ◌<◌, List, length, take}
use Rattle.session_model.specs.Lines.{is_blank}
use Rattle.session_loop.specs.declared.line.Line.{Line}
use Rattle.session_loop.specs.Shapes.{shape_of, is_spaces}

-- how many bytes of a line are kept: one more than the longest, with a carriage return at its end
unfoldable pub most_kept : ℕ
most_kept = 65538

-- the front of the text is kept, and what the whole is made of is known
pub record Holds (line : Line) (text : List ℕ) : Type 0 where
  pub kept : line.kept.items ≡ take most_kept text
  pub shape : line.shape ≡ shape_of text

-- what is kept is the text, or both are longer than this
abbrev pub StandsFor : ℕ → List ℕ → List ℕ → Type 0
StandsFor most kept text = (kept ≡ text) ⊎ ((most < length kept) × (most < length text))

-- the line is this text without its end, or both are too long; and it is known whether the text is blank
pub record Stands (line : Line) (text : List ℕ) : Type 0 where
  pub kept : StandsFor 65536 line.kept.items text
  pub blank : is_spaces line.shape ≡ is_blank text
