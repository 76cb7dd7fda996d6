-- How a series and a field are joined into one key, and where a key is cut again.
use Rattle.std.specs.Prelude.{◌≡◌, ℕ, ◌<◌, ◌≤◌, ◌^◌, List, [], ◌∷◌, ◌++◌, length, take, drop}

-- the four bytes `#!~#`
abbrev pub mark : List ℕ
mark = 35 ∷ 33 ∷ 126 ∷ 35 ∷ []

-- the text of the series, the mark, and the field as it is named
abbrev pub key_of : List ℕ → List ℕ → List ℕ
key_of series field = series ++ (mark ++ field)

-- the mark stands at this place
abbrev pub MarkAt : List ℕ → ℕ → Type 0
MarkAt bytes at = take 4 (drop at bytes) ≡ mark

-- the mark stands at this place, and at none before it
pub record IsFirstMark (bytes : List ℕ) (at : ℕ) : Type 0 where
  pub stands : MarkAt bytes at
  pub first : (before : ℕ) → before < at → ¬ MarkAt bytes before

-- the key is longer than a key may be; its length is one that a `usize` holds
pub record IsTooLong (key : List ℕ) (len : ℕ) : Type 0 where
  pub counted : len ≡ length key
  pub above : 65535 < len
  pub holds : len < 2 ^ 64

-- the key isn't too long, and a mark stands before the end of its series
pub record IsCutShort (series field : List ℕ) (at : ℕ) : Type 0 where
  pub fits : length (key_of series field) ≤ 65535
  pub within : at < length series
  pub cut : IsFirstMark (key_of series field) at
