-- Which words stand for a list of values.
use Rattle.std.specs.Prelude.{ℕ, zero, suc, ◌+◌, ◌-◌, ◌*◌, ◌^◌, Bool, ◌&&◌, ◌==◌, nat_lt, nat_le, if◌then◌else◌, List, [], ◌∷◌, length, take, slice_index, unwrap_or}
use Rattle.std.specs.List.{find, list_all, range_with_len}

-- how many values a word of a selector holds; the selectors are 0 to 15
unfoldable pub count_of : ℕ → ℕ
count_of selector = slice_index (240 ∷ 120 ∷ 60 ∷ 30 ∷ 20 ∷ 15 ∷ 12 ∷ 10 ∷ 8 ∷ 7 ∷ 6 ∷ 5 ∷ 4 ∷ 3 ∷ 2 ∷ 1 ∷ []) selector

-- in how many bits each; the ones of selectors 0 and 1 take none
unfoldable pub bits_of : ℕ → ℕ
bits_of selector = slice_index (0 ∷ 0 ∷ 1 ∷ 2 ∷ 3 ∷ 4 ∷ 5 ∷ 6 ∷ 7 ∷ 8 ∷ 10 ∷ 12 ∷ 15 ∷ 20 ∷ 30 ∷ 60 ∷ []) selector

-- the value may stand in a word of this selector: selectors 0 and 1 are for ones alone
unfoldable pub fits : ℕ → ℕ → Bool
fits selector value = if nat_lt selector 2 then value == 1 else nat_lt value (2 ^ bits_of selector)

-- there are as many values as the selector holds, and each of so many fits; what stands behind them doesn't count
unfoldable pub holds : ℕ → List ℕ → Bool
holds selector values = nat_le (count_of selector) (length values) && list_all (fits selector) (take (count_of selector) values)

-- the first selector, from 0 upward, that holds the next values; where none does, a value is too wide for any word
unfoldable pub selector_of : List ℕ → ℕ
selector_of values = unwrap_or (find (λ selector. holds selector values) (range_with_len 0 16)) 15

-- values side by side in so many bits each, the first in the lowest
unfoldable pub packed : ℕ → List ℕ → ℕ
packed bits [] = 0
packed bits (value ∷ values) = value + 2 ^ bits * packed bits values

-- the lower 60 bits of a word of this selector: zero for ones, and zero above the last value
unfoldable pub payload : ℕ → List ℕ → ℕ
payload selector values = if nat_lt selector 2 then 0 else packed (bits_of selector) values

-- the word of the next values: the selector is in its upper four bits
unfoldable pub word_of : List ℕ → ℕ
word_of values = selector_of values * 2 ^ 60 + payload (selector_of values) (take (count_of (selector_of values)) values)

-- the words of a list, where the word before holds so many of its first values
unfoldable pub words_behind : ℕ → List ℕ → List ℕ
words_behind held [] = []
words_behind zero (value ∷ values) = word_of (value ∷ values) ∷ words_behind (count_of (selector_of (value ∷ values)) - 1) values
words_behind (suc held) (value ∷ values) = words_behind held values

-- the words of a list: each takes as many values as the first selector that holds them; no values have no words
unfoldable pub words_of : List ℕ → List ℕ
words_of values = words_behind 0 values
