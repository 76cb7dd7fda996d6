-- Which texts are words, and which are numbers?
use Rattle.std.specs.Prelude.{◌≡◌, ℕ, ◌≤◌, List, [], ◌∷◌, length, slice_index, take, drop, codes, Bool, true, false, ◌||◌, ◌&&◌, nat_le, ◌==◌, Option, Some, None, if◌then◌else◌}
use Rattle.std.specs.List.{list_all, list_any}
use Rattle.std.specs.Str.{str_eq_ignore_ascii_case, all_ascii_digits}
use Rattle.std.specs.Option.{option_and_then}
use Rattle.std.specs.Str.Parse.{digits_value}

abbrev pub is_letter : ℕ → Bool
is_letter byte = (nat_le 65 byte && nat_le byte 90) || (nat_le 97 byte && nat_le byte 122) || (byte == 95)

abbrev pub is_letter_or_digit : ℕ → Bool
is_letter_or_digit byte = is_letter byte || (nat_le 48 byte && nat_le byte 57)

-- the words of the language, which are no names
abbrev pub reserved_words : List (List ℕ)
reserved_words = codes "SELECT" ∷ codes "FROM" ∷ codes "WHERE" ∷ codes "AND" ∷ codes "OR" ∷ codes "GROUP" ∷ codes "BY"
    ∷ codes "ORDER" ∷ codes "ASC" ∷ codes "DESC" ∷ codes "LIMIT" ∷ codes "OFFSET" ∷ codes "SLIMIT" ∷ codes "SOFFSET"
    ∷ codes "AS" ∷ codes "SHOW" ∷ codes "DELETE" ∷ codes "DROP" ∷ codes "WITH" ∷ codes "TIME" ∷ codes "TRUE" ∷ codes "FALSE" ∷ []

-- the text is one of them, in small letters, capitals or both
abbrev pub is_reserved : List ℕ → Bool
is_reserved text = list_any (λ word. str_eq_ignore_ascii_case text word) reserved_words

-- a letter or an underscore, and then letters, digits and underscores, at most 255 in all, and not reserved
pub record IsWord (text : List ℕ) : Type 0 where
  pub first : is_letter (slice_index text 0) ≡ true
  pub each : list_all is_letter_or_digit text ≡ true
  pub short : length text ≤ 255
  pub free : is_reserved text ≡ false

-- what stands behind these bytes at the beginning of a text, which may have small letters, capitals or both there
unfoldable pub behind_word : List ℕ → List ℕ → Option (List ℕ)
behind_word word text = if str_eq_ignore_ascii_case (take (length word) text) word then Some (drop (length word) text) else None

-- the number that 1 to so many digits write
unfoldable pub number_in : ℕ → List ℕ → Option ℕ
number_in most text = if (nat_le 1 (length text) && nat_le (length text) most) && all_ascii_digits text then Some (digits_value 10 text) else None

-- how many lines the BATCH takes that the line begins: BATCH, one space and 1 to 9 digits
abbrev pub batch_count : List ℕ → Option ℕ
batch_count line = option_and_then (number_in 9) (behind_word (codes "BATCH ") line)

-- which number the line asks for: AFTER, one space and 1 to 19 digits
abbrev pub after_number : List ℕ → Option ℕ
after_number line = option_and_then (number_in 19) (behind_word (codes "AFTER ") line)

-- the line of line protocol in an INSERT: what stands behind INSERT and one space
abbrev pub inserted_line : List ℕ → Option (List ℕ)
inserted_line line = behind_word (codes "INSERT ") line
