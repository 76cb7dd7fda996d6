-- Which tokens are keywords, which are names, and which texts do quotes hold?
use Rattle.std.specs.Prelude.{ℕ, Bool, true, false, not, ◌&&◌, ◌||◌, ◌==◌, ◌-◌, Option, Some, None, List, [], ◌∷◌, length, slice_index, option_and_then, if◌then◌else◌}
use Rattle.std.specs.List.{list_any}
use Rattle.std.specs.Str.{is_utf8, str_eq_ignore_ascii_case}
use Rattle.influxql_parser.specs.declared.token.Symbol.{Symbol}
use Rattle.influxql_parser.specs.declared.token.Symbol.TheVariants as symbol
use Rattle.influxql_parser.specs.Tokens.{Token, Word, Quoted, Text, Number, Duration, Sign}

-- `delete`
abbrev pub delete_word : List ℕ
delete_word = 100 ∷ 101 ∷ 108 ∷ 101 ∷ 116 ∷ 101 ∷ []

-- `drop`
abbrev pub drop_word : List ℕ
drop_word = 100 ∷ 114 ∷ 111 ∷ 112 ∷ []

-- `from`
abbrev pub from_word : List ℕ
from_word = 102 ∷ 114 ∷ 111 ∷ 109 ∷ []

-- `where`
abbrev pub where_word : List ℕ
where_word = 119 ∷ 104 ∷ 101 ∷ 114 ∷ 101 ∷ []

-- `and`
abbrev pub and_word : List ℕ
and_word = 97 ∷ 110 ∷ 100 ∷ []

-- `or`
abbrev pub or_word : List ℕ
or_word = 111 ∷ 114 ∷ []

-- `time`
abbrev pub time_word : List ℕ
time_word = 116 ∷ 105 ∷ 109 ∷ 101 ∷ []

-- `now`
abbrev pub now_word : List ℕ
now_word = 110 ∷ 111 ∷ 119 ∷ []

-- `true`
abbrev pub true_word : List ℕ
true_word = 116 ∷ 114 ∷ 117 ∷ 101 ∷ []

-- `false`
abbrev pub false_word : List ℕ
false_word = 102 ∷ 97 ∷ 108 ∷ 115 ∷ 101 ∷ []

-- `series`
abbrev pub series_word : List ℕ
series_word = 115 ∷ 101 ∷ 114 ∷ 105 ∷ 101 ∷ 115 ∷ []

-- `measurement`
abbrev pub measurement_word : List ℕ
measurement_word = 109 ∷ 101 ∷ 97 ∷ 115 ∷ 117 ∷ 114 ∷ 101 ∷ 109 ∷ 101 ∷ 110 ∷ 116 ∷ []

-- `show`
abbrev pub show_word : List ℕ
show_word = 115 ∷ 104 ∷ 111 ∷ 119 ∷ []

-- `measurements`
abbrev pub measurements_word : List ℕ
measurements_word = 109 ∷ 101 ∷ 97 ∷ 115 ∷ 117 ∷ 114 ∷ 101 ∷ 109 ∷ 101 ∷ 110 ∷ 116 ∷ 115 ∷ []

-- `tag`
abbrev pub tag_word : List ℕ
tag_word = 116 ∷ 97 ∷ 103 ∷ []

-- `keys`
abbrev pub keys_word : List ℕ
keys_word = 107 ∷ 101 ∷ 121 ∷ 115 ∷ []

-- `values`
abbrev pub values_word : List ℕ
values_word = 118 ∷ 97 ∷ 108 ∷ 117 ∷ 101 ∷ 115 ∷ []

-- `with`
abbrev pub with_word : List ℕ
with_word = 119 ∷ 105 ∷ 116 ∷ 104 ∷ []

-- `key`
abbrev pub key_word : List ℕ
key_word = 107 ∷ 101 ∷ 121 ∷ []

-- `field`
abbrev pub field_word : List ℕ
field_word = 102 ∷ 105 ∷ 101 ∷ 108 ∷ 100 ∷ []

-- `files`
abbrev pub files_word : List ℕ
files_word = 102 ∷ 105 ∷ 108 ∷ 101 ∷ 115 ∷ []

-- the words that are no bare names, which begin the parts of a statement: `select`, `from`, `where`, `and`, `or`, `group`, `by`, `order`
abbrev pub clause_words : List (List ℕ)
clause_words =
    (115 ∷ 101 ∷ 108 ∷ 101 ∷ 99 ∷ 116 ∷ []) ∷
    (102 ∷ 114 ∷ 111 ∷ 109 ∷ []) ∷
    (119 ∷ 104 ∷ 101 ∷ 114 ∷ 101 ∷ []) ∷
    (97 ∷ 110 ∷ 100 ∷ []) ∷
    (111 ∷ 114 ∷ []) ∷
    (103 ∷ 114 ∷ 111 ∷ 117 ∷ 112 ∷ []) ∷
    (98 ∷ 121 ∷ []) ∷
    (111 ∷ 114 ∷ 100 ∷ 101 ∷ 114 ∷ []) ∷
    []

-- and those of order and limits: `asc`, `desc`, `limit`, `offset`, `slimit`, `soffset`, `as`
abbrev pub limit_words : List (List ℕ)
limit_words =
    (97 ∷ 115 ∷ 99 ∷ []) ∷
    (100 ∷ 101 ∷ 115 ∷ 99 ∷ []) ∷
    (108 ∷ 105 ∷ 109 ∷ 105 ∷ 116 ∷ []) ∷
    (111 ∷ 102 ∷ 102 ∷ 115 ∷ 101 ∷ 116 ∷ []) ∷
    (115 ∷ 108 ∷ 105 ∷ 109 ∷ 105 ∷ 116 ∷ []) ∷
    (115 ∷ 111 ∷ 102 ∷ 102 ∷ 115 ∷ 101 ∷ 116 ∷ []) ∷
    (97 ∷ 115 ∷ []) ∷
    []

-- and the others: `show`, `delete`, `drop`, `with`, `time`, `true`, `false`
abbrev pub other_words : List (List ℕ)
other_words =
    (115 ∷ 104 ∷ 111 ∷ 119 ∷ []) ∷
    (100 ∷ 101 ∷ 108 ∷ 101 ∷ 116 ∷ 101 ∷ []) ∷
    (100 ∷ 114 ∷ 111 ∷ 112 ∷ []) ∷
    (119 ∷ 105 ∷ 116 ∷ 104 ∷ []) ∷
    (116 ∷ 105 ∷ 109 ∷ 101 ∷ []) ∷
    (116 ∷ 114 ∷ 117 ∷ 101 ∷ []) ∷
    (102 ∷ 97 ∷ 108 ∷ 115 ∷ 101 ∷ []) ∷
    []

-- a word is reserved in small letters, capitals or both
abbrev pub is_reserved : List ℕ → Bool
is_reserved word =
    list_any (str_eq_ignore_ascii_case word) clause_words
    || (list_any (str_eq_ignore_ascii_case word) limit_words || list_any (str_eq_ignore_ascii_case word) other_words)

-- the token is this keyword, in small letters, capitals or both
abbrev pub is_keyword : List ℕ → Token → Bool
is_keyword keyword (Word word) = str_eq_ignore_ascii_case word keyword
is_keyword keyword (Quoted raw) = false
is_keyword keyword (Text raw) = false
is_keyword keyword (Number number) = false
is_keyword keyword (Duration nanoseconds) = false
is_keyword keyword (Sign symbol) = false

-- the symbol that a token is
abbrev pub symbol_in : Token → Option Symbol
symbol_in (Sign symbol) = Some symbol
symbol_in (Word word) = None
symbol_in (Quoted raw) = None
symbol_in (Text raw) = None
symbol_in (Number number) = None
symbol_in (Duration nanoseconds) = None

-- what stands behind this keyword, where it stands first
abbrev pub behind_keyword : List ℕ → List Token → Option (List Token)
behind_keyword keyword [] = None
behind_keyword keyword (token ∷ tokens) = if is_keyword keyword token then Some tokens else None

-- what stands behind these keywords
abbrev pub behind_keywords : List (List ℕ) → List Token → Option (List Token)
behind_keywords [] tokens = Some tokens
behind_keywords (keyword ∷ keywords) tokens = option_and_then (behind_keywords keywords) (behind_keyword keyword tokens)

abbrev pub is_semicolon : Option Symbol → Bool
is_semicolon (Some symbol.Semicolon) = true
is_semicolon other = false

-- the tokens without a semicolon at their end
abbrev pub without_semicolon : List Token → List Token
without_semicolon [] = []
without_semicolon (token ∷ []) = if is_semicolon (symbol_in token) then [] else token ∷ []
without_semicolon (token ∷ next ∷ tokens) = token ∷ without_semicolon (next ∷ tokens)

-- what stands for a double quote, a single quote, a backslash and a newline behind a backslash; nothing else has a reading there
abbrev pub escape_of : ℕ → Option ℕ
escape_of byte = if (byte == 34) || ((byte == 39) || (byte == 92)) then Some byte else if byte == 110 then Some 10 else None

-- a byte, where there is one, in front of a text, where there is one
abbrev pub in_front : Option ℕ → Option (List ℕ) → Option (List ℕ)
in_front None text = None
in_front (Some byte) None = None
in_front (Some byte) (Some text) = Some (byte ∷ text)

-- the bytes that stand between quotes without their escapes
abbrev pub without_escapes : List ℕ → Option (List ℕ)
without_escapes [] = Some []
without_escapes (byte ∷ []) = if byte == 92 then None else Some (byte ∷ [])
without_escapes (byte ∷ next ∷ raw) =
    if byte == 92 then in_front (escape_of next) (without_escapes raw) else in_front (Some byte) (without_escapes (next ∷ raw))

abbrev pub text_of_bytes : List ℕ → Option (List ℕ)
text_of_bytes text = if is_utf8 text then Some text else None

-- the text that stands between quotes
abbrev pub text_in : List ℕ → Option (List ℕ)
text_in raw = option_and_then text_of_bytes (without_escapes raw)

-- a text may be a name: it isn't empty, has no newline and doesn't end with a backslash
abbrev pub is_name : List ℕ → Bool
is_name text = not (length text == 0) && (not (list_any (λ byte. byte == 10) text) && not (slice_index text (length text - 1) == 92))

-- the text, where it is a name
abbrev pub name_of_text : List ℕ → Option (List ℕ)
name_of_text text = if is_utf8 text then (if is_name text then Some text else None) else None

abbrev pub quoted_name : List ℕ → Option (List ℕ)
quoted_name raw = option_and_then name_of_text (without_escapes raw)

-- the name that a token is: a word that isn't reserved, or what stands in double quotes and is a name
abbrev pub name_in : Token → Option (List ℕ)
name_in (Word word) = if is_reserved word then None else name_of_text word
name_in (Quoted raw) = quoted_name raw
name_in (Text raw) = None
name_in (Number number) = None
name_in (Duration nanoseconds) = None
name_in (Sign symbol) = None

-- the name that the only token is
abbrev pub only_name : List Token → Option (List ℕ)
only_name [] = None
only_name (named ∷ []) = name_in named
only_name (named ∷ next ∷ tokens) = None
