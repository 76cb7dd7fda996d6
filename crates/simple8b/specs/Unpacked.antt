-- What a word says where it is read back.
use Rattle.std.specs.Prelude.{ℕ, zero, suc, ◌/◌, ◌%◌, ◌^◌, nat_lt, if◌then◌else◌, List, [], ◌∷◌, replicate}
use Rattle.std.specs.List.{flat_map}
use Rattle.simple8b.specs.Words.{count_of, bits_of}

-- the selector of a word
abbrev pub selector_in : ℕ → ℕ
selector_in word = word / 2 ^ 60

-- so many numbers of so many bits each, from the lowest bits on
unfoldable pub unpacked : ℕ → ℕ → ℕ → List ℕ
unpacked bits zero word = []
unpacked bits (suc count) word = word % 2 ^ bits ∷ unpacked bits count (word / 2 ^ bits)

-- the values of a word, whatever its unused bits are
unfoldable pub values_in : ℕ → List ℕ
values_in word =
    if nat_lt (selector_in word) 2 then replicate (count_of (selector_in word)) 1 else unpacked (bits_of (selector_in word)) (count_of (selector_in word)) word

-- the values of words
unfoldable pub values_of : List ℕ → List ℕ
values_of words = flat_map values_in words
