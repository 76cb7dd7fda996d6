-- Which texts are a SHOW?
use Rattle.std.specs.Prelude.{◌≡◌, ℕ, Bool, true, false, Option, Some, None, List, [], ◌∷◌, option_and_then, if◌then◌else◌}
use Rattle.query_model.specs.declared.show.Show.{Show}
use Rattle.query_model.specs.declared.show.Show.TheVariants as show
use Rattle.influxql_parser.specs.declared.token.Symbol.{Symbol}
use Rattle.influxql_parser.specs.declared.token.Symbol.TheVariants.{Equal}
use Rattle.influxql_parser.specs.Tokens.{Token, AreTokens}
use Rattle.influxql_parser.specs.GrammarWords.{behind_keywords, symbol_in, name_in, only_name, without_semicolon, show_word, measurements_word, series_word, tag_word, keys_word, values_word, field_word, files_word, from_word, with_word, key_word}

-- FROM and a name, or nothing, and what stands behind
abbrev pub IsFromName : List Token → Option (List ℕ) → List Token → Type 0
IsFromName tokens None behind = tokens ≡ behind
IsFromName tokens (Some name) behind =
    (named : Token) × (behind_keywords (from_word ∷ []) tokens ≡ Some (named ∷ behind)) × (name_in named ≡ Some name)

-- these keywords, and FROM and a name or nothing behind them
abbrev pub IsListing : List (List ℕ) → List Token → Option (List ℕ) → List Token → Type 0
IsListing keywords tokens name behind = (rest : List Token) × (behind_keywords keywords tokens ≡ Some rest) × IsFromName rest name behind

abbrev pub is_equal : Option Symbol → Bool
is_equal (Some Equal) = true
is_equal other = false

-- what stands behind `=`
abbrev pub behind_equal : List Token → Option (List Token)
behind_equal [] = None
behind_equal (equals ∷ tokens) = if is_equal (symbol_in equals) then Some tokens else None

-- the name in WITH KEY = name
abbrev pub key_in : List Token → Option (List ℕ)
key_in tokens = option_and_then only_name (option_and_then behind_equal (behind_keywords (with_word ∷ key_word ∷ []) tokens))

-- [FROM name] WITH KEY = name
abbrev pub IsOfKey : List Token → Option (List ℕ) → List ℕ → Type 0
IsOfKey tokens name key = (behind : List Token) × IsFromName tokens name behind × (key_in behind ≡ Some key)

-- a name, and WITH KEY = name behind it
abbrev pub named_with_key : Token → List Token → Option (Option (List ℕ) × List ℕ)
named_with_key named tokens = option_and_then (λ name. option_and_then (λ key. Some (Some name, key)) (key_in tokens)) (name_in named)

-- nothing is of this kind
abbrev pub HasNone : (Option (List ℕ) → Type 0) → Type 0
HasNone P = (name : Option (List ℕ)) → P name → ⊥

-- SHOW MEASUREMENTS, SHOW SERIES [FROM name], SHOW TAG KEYS [FROM name], SHOW TAG VALUES [FROM name] WITH KEY = name,
-- SHOW FIELD KEYS [FROM name] and SHOW FILES
abbrev pub IsShowStatement : List Token → Show → Type 0
IsShowStatement tokens show.Measurements = behind_keywords (show_word ∷ measurements_word ∷ []) tokens ≡ Some []
IsShowStatement tokens (show.Series name) = IsListing (show_word ∷ series_word ∷ []) tokens name []
IsShowStatement tokens (show.TagKeys name) = IsListing (show_word ∷ tag_word ∷ keys_word ∷ []) tokens name []
IsShowStatement tokens (show.TagValues name key) =
    (rest : List Token) × (behind_keywords (show_word ∷ tag_word ∷ values_word ∷ []) tokens ≡ Some rest) × IsOfKey rest name key
IsShowStatement tokens (show.FieldKeys name) = IsListing (show_word ∷ field_word ∷ keys_word ∷ []) tokens name []
IsShowStatement tokens show.Files = behind_keywords (show_word ∷ files_word ∷ []) tokens ≡ Some []

-- the text is this SHOW, with a semicolon behind it or without
abbrev pub IsShow : List ℕ → Show → Type 0
IsShow text what = (tokens : List Token) × AreTokens tokens text × IsShowStatement (without_semicolon tokens) what

-- the text is no SHOW
abbrev pub IsNoShow : List ℕ → Type 0
IsNoShow text = (what : Show) → IsShow text what → ⊥

-- a text is one SHOW at most
abbrev pub OneShow : Type 0
OneShow = (text : List ℕ) (what other : Show) → IsShow text what → IsShow text other → what ≡ other
