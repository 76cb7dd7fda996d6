-- Which tokens are a DELETE, a DROP SERIES or a DROP MEASUREMENT?
use Rattle.std.specs.Prelude.{◌≡◌, ℕ, ℤ, Bool, true, false, Option, Some, None, List, [], ◌∷◌}
use Rattle.std.specs.List.{list_any, list_all}
use Rattle.query_model.specs.declared.condition.Literal.TheVariants as literal
use Rattle.query_model.specs.declared.condition.Op.TheVariants.{Eq, Ne}
use Rattle.influxql_parser.specs.declared.piece.Test.{Test}
use Rattle.influxql_parser.specs.declared.piece.Test.TheVariants as test
use Rattle.influxql_parser.specs.Tokens.{Token}
use Rattle.influxql_parser.specs.GrammarWords.{behind_keywords, name_in, where_word, delete_word, drop_word, from_word, series_word, measurement_word}
use Rattle.influxql_parser.specs.GrammarPieces.{ArePieces}
use Rattle.influxql_parser.specs.GrammarConditions.{Either, either_pieces, nests_within, tests_in, is_of_time}

-- A deletion that was read: the points of a measurement under a condition, or all of them where there is none.
pub record DeletionText : Type 0 where
  pub measurement : List ℕ
  pub condition : Option Either

-- a comparison that a deletion may have: of the time, or of a name with a string for equality
abbrev pub is_of_tag_or_time : Test → Bool
is_of_tag_or_time (test.Time op moment) = true
is_of_tag_or_time (test.Compare name Eq (Some (literal.Text text))) = true
is_of_tag_or_time (test.Compare name Ne (Some (literal.Text text))) = true
is_of_tag_or_time other = false

-- The condition of a deletion: its pieces are all of the tokens, and its parentheses nest at most 64 deep.
pub record IsDeletionCondition (now : ℤ) (tokens : List Token) (condition : Either) : Type 0 where
  pub pieces : ArePieces now (either_pieces condition) tokens []
  pub nested : nests_within 0 (either_pieces condition) ≡ true
  pub tested : list_all is_of_tag_or_time (tests_in (either_pieces condition)) ≡ true

-- a condition behind WHERE, or nothing
abbrev pub IsWhere : ℤ → List Token → Option Either → Type 0
IsWhere now tokens None = tokens ≡ []
IsWhere now tokens (Some condition) = (behind : List Token) × (behind_keywords (where_word ∷ []) tokens ≡ Some behind) × IsDeletionCondition now behind condition

-- a name, and a condition behind WHERE or nothing
pub record IsOfMeasurement (now : ℤ) (tokens : List Token) (deletion : DeletionText) : Type 0 where
  pub named : Token
  pub behind : List Token
  pub tokens_are : tokens ≡ named ∷ behind
  pub name_is : name_in named ≡ Some deletion.measurement
  pub where_is : IsWhere now behind deletion.condition

-- no comparison of time stands in a condition
abbrev pub HasNoTime : Option Either → Type 0
HasNoTime None = Unit {0}
HasNoTime (Some condition) = list_any is_of_time (tests_in (either_pieces condition)) ≡ false

-- DELETE FROM name [WHERE condition]
pub record IsDelete (now : ℤ) (tokens : List Token) (deletion : DeletionText) : Type 0 where
  pub behind : List Token
  pub keywords : behind_keywords (delete_word ∷ from_word ∷ []) tokens ≡ Some behind
  pub measurement : IsOfMeasurement now behind deletion

-- DROP SERIES FROM name [WHERE condition], in which no time stands
pub record IsDropSeries (now : ℤ) (tokens : List Token) (deletion : DeletionText) : Type 0 where
  pub behind : List Token
  pub keywords : behind_keywords (drop_word ∷ series_word ∷ from_word ∷ []) tokens ≡ Some behind
  pub measurement : IsOfMeasurement now behind deletion
  pub timeless : HasNoTime deletion.condition

-- DROP MEASUREMENT name
pub record IsDropMeasurement (tokens : List Token) (deletion : DeletionText) : Type 0 where
  pub named : Token
  pub keywords : behind_keywords (drop_word ∷ measurement_word ∷ []) tokens ≡ Some (named ∷ [])
  pub name_is : name_in named ≡ Some deletion.measurement
  pub whole : deletion.condition ≡ None

-- the tokens are one of the three statements, without a semicolon behind it
pub data IsDeletionStatement (now : ℤ) (tokens : List Token) (deletion : DeletionText) : Type 0 where
  Delete : IsDelete now tokens deletion → IsDeletionStatement now tokens deletion
  DropSeries : IsDropSeries now tokens deletion → IsDeletionStatement now tokens deletion
  DropMeasurement : IsDropMeasurement tokens deletion → IsDeletionStatement now tokens deletion
