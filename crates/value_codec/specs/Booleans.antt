-- How Booleans are coded.
use Rattle.std.specs.Prelude.{ℕ, zero, suc, ◌+◌, ◌/◌, Bool, if◌then◌else◌, List, [], ◌∷◌, ◌++◌, length}
use Rattle.word_codec.specs.Uvarint.{uvarint}

-- a byte of Booleans whose first has this weight and each other half of the one before: behind the weight 1 none counts
unfoldable pub byte_of : ℕ → List Bool → ℕ
byte_of weight [] = 0
byte_of weight (truth ∷ truths) = (if truth then weight else 0) + byte_of (weight / 2) truths

-- the bytes of Booleans, eight in each, where the byte before holds so many of the first of them
unfoldable pub bytes_behind : ℕ → List Bool → List ℕ
bytes_behind held [] = []
bytes_behind zero (truth ∷ truths) = byte_of 128 (truth ∷ truths) ∷ bytes_behind 7 truths
bytes_behind (suc held) (truth ∷ truths) = bytes_behind held truths

-- the form, how many there are, and a bit for each from the highest of its byte down; the bits that are left are zero
unfoldable pub coded_booleans : List Bool → List ℕ
coded_booleans truths = (16 ∷ uvarint (length truths)) ++ bytes_behind 0 truths
