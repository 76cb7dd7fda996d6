-- What is a condition on tags, which series meet it, which texts does it hold, and how deep is it nested?
use Rattle.std.specs.Prelude.{ℕ, ◌+◌, Bool, true, not, ◌&&◌, ◌||◌, nat_le, List, [], ◌∷◌, ◌++◌, if◌then◌else◌}
use Rattle.std.specs.Str.{bytes_eq}
use Rattle.point_model.specs.Tags.{tag_text}

-- That the tag with a key has a text, or that it has another one; that both sides are met, or one of them. Each series meets `True`.
pub data Condition : Type 0 where
  True : Condition
  Eq : List ℕ → List ℕ → Condition
  Ne : List ℕ → List ℕ → Condition
  And : Condition → Condition → Condition
  Or : Condition → Condition → Condition

-- the tags of the series meet the condition; a tag that it lacks has the empty text
abbrev pub meets : Condition → List ℕ → Bool
meets True series = true
meets (Eq key text) series = bytes_eq (tag_text key series) text
meets (Ne key text) series = not (bytes_eq (tag_text key series) text)
meets (And first second) series = meets first series && meets second series
meets (Or first second) series = meets first series || meets second series

-- the keys and the texts that stand in a condition
abbrev pub texts_of : Condition → List (List ℕ)
texts_of True = []
texts_of (Eq key text) = key ∷ text ∷ []
texts_of (Ne key text) = key ∷ text ∷ []
texts_of (And first second) = texts_of first ++ texts_of second
texts_of (Or first second) = texts_of first ++ texts_of second

abbrev pub larger : ℕ → ℕ → ℕ
larger a b = if nat_le a b then b else a

-- how many `and` and `or` are open at most at one place
abbrev pub nesting : Condition → ℕ
nesting True = 0
nesting (Eq key text) = 0
nesting (Ne key text) = 0
nesting (And first second) = larger (nesting first) (nesting second) + 1
nesting (Or first second) = larger (nesting first) (nesting second) + 1
