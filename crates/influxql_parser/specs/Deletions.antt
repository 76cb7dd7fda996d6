-- What does the text of a deletion mean, and for what is it refused?
use Rattle.std.specs.Prelude.{◌≡◌, ℕ, ℤ, Bool, true, false, ◌||◌, Option, Some, None, List, [], ◌++◌, codes}
use Rattle.std.specs.List.{list_any}
use Rattle.std.specs.Str.{str_eq_ignore_ascii_case}
use Rattle.point_model.specs.Conditions as tags
use Rattle.point_model.specs.declared.deletion.Deletion.{Deletion}
use Rattle.query_model.specs.declared.show.Show.{Show}
use Rattle.influxql_parser.specs.declared.fault.ReadFault.{ReadFault}
use Rattle.influxql_parser.specs.declared.fault.ReadFault.TheVariants.{Syntax, TimeInOr, NumberRange, Memory}
use Rattle.influxql_parser.specs.declared.piece.Test.{Test}
use Rattle.influxql_parser.specs.declared.piece.Test.TheVariants as test
use Rattle.influxql_parser.specs.Bounds.{lower_bound, upper_bound, times_between}
use Rattle.influxql_parser.specs.Numbers.{front_passing, behind_passing}
use Rattle.influxql_parser.specs.Tokens.{Token, AreTokens, is_blank, is_of_word}
use Rattle.influxql_parser.specs.GrammarWords.{without_semicolon, delete_word, drop_word}
use Rattle.influxql_parser.specs.GrammarConditions.{Either, either_pieces, either_has_time_in_or, tests_in}
use Rattle.influxql_parser.specs.GrammarDeletions.{DeletionText, IsDeletionStatement}
use Rattle.influxql_parser.specs.GrammarShows.{IsShow}
use Rattle.influxql_parser.specs.DeletionTags.{deletion_either_tags}

-- The text reads as this deletion at this moment, whatever its numbers are and wherever its comparisons of time stand.
pub record ReadsAs (text : List ℕ) (now : ℤ) (deletion : DeletionText) : Type 0 where
  pub tokens : List Token
  pub cut : AreTokens tokens text
  pub statement : IsDeletionStatement now (without_semicolon tokens) deletion

-- the comparisons of a condition
abbrev pub tests_of : Option Either → List Test
tests_of None = []
tests_of (Some condition) = tests_in (either_pieces condition)

-- a comparison of time stands under an OR
abbrev pub has_time_in_or : Option Either → Bool
has_time_in_or None = false
has_time_in_or (Some condition) = either_has_time_in_or condition

-- the literal, the moment or a part of the moment is out of range
abbrev pub is_out_of_range : Test → Bool
is_out_of_range (test.Time op (Some moment)) = false
is_out_of_range (test.Compare name op (Some literal)) = false
is_out_of_range other = true

-- the times of a deletion
abbrev pub times_of : Option Either → ℤ × ℤ
times_of condition = times_between (lower_bound (tests_of condition)) (upper_bound (tests_of condition))

abbrev pub tags_of : Option Either → tags.Condition
tags_of None = tags.True
tags_of (Some condition) = deletion_either_tags condition

-- the deletion that a text means
abbrev pub deletion_of : DeletionText → Deletion
deletion_of deletion = record {
  measurement = deletion.measurement;
  tags = tags_of deletion.condition;
  from = (times_of deletion.condition).0;
  to = (times_of deletion.condition).1;
}

-- What reads as one of these means this deletion, and is refused for nothing.
pub record MeansDeletion (Reads : DeletionText → Type 0) (deletion : Deletion) : Type 0 where
  pub read : DeletionText
  pub reads : Reads read
  pub times_apart : has_time_in_or read.condition ≡ false
  pub in_range : list_any is_out_of_range (tests_of read.condition) ≡ false
  pub means : deletion ≡ deletion_of read

-- it reads as none
abbrev pub HasNoReading : (DeletionText → Type 0) → Type 0
HasNoReading Reads = (read : DeletionText) → Reads read → ⊥

-- It reads as one, and is refused for its one cause, the first of these: a comparison of time stands under an OR; a number or a
-- moment is out of range.
abbrev pub IsRefusedFor : (DeletionText → Type 0) → ReadFault → Type 0
IsRefusedFor Reads Syntax = ⊥
IsRefusedFor Reads TimeInOr = (read : DeletionText) × Reads read × (has_time_in_or read.condition ≡ true)
IsRefusedFor Reads NumberRange =
    (read : DeletionText) × Reads read × (has_time_in_or read.condition ≡ false) × (list_any is_out_of_range (tests_of read.condition) ≡ true)
IsRefusedFor Reads Memory = Unit {0}

-- the text means this deletion at this moment
abbrev pub IsDeletion : List ℕ → ℤ → Deletion → Type 0
IsDeletion text now deletion = MeansDeletion (ReadsAs text now) deletion

-- the text is no DELETE and no DROP
abbrev pub IsNoDeletion : List ℕ → ℤ → Type 0
IsNoDeletion text now = HasNoReading (ReadsAs text now)

-- The text is a DELETE or a DROP that is refused for this.
abbrev pub IsRefused : List ℕ → ℤ → ReadFault → Type 0
IsRefused text now fault = IsRefusedFor (ReadsAs text now) fault

-- the word behind the blanks at the front of a text; empty where none stands there
abbrev pub first_word : List ℕ → List ℕ
first_word text = front_passing is_of_word (behind_passing is_blank text)

-- the first word is DELETE or DROP, in small letters, capitals or both
abbrev pub begins_deletion : List ℕ → Bool
begins_deletion text = str_eq_ignore_ascii_case (first_word text) delete_word || str_eq_ignore_ascii_case (first_word text) drop_word

abbrev pub BeginsDeletion : List ℕ → Type 0
BeginsDeletion text = begins_deletion text ≡ true

-- The text begins as a deletion, and is refused for its one cause: first of all that it is none.
abbrev pub IsRefusedDeletion : List ℕ → ℤ → ReadFault → Type 0
IsRefusedDeletion text now Syntax = BeginsDeletion text × IsNoDeletion text now
IsRefusedDeletion text now TimeInOr = IsRefused text now TimeInOr
IsRefusedDeletion text now NumberRange = IsRefused text now NumberRange
IsRefusedDeletion text now Memory = Unit {0}

-- what reads as a deletion begins as one
abbrev pub DeletionsBegin : Type 0
DeletionsBegin = (text : List ℕ) (now : ℤ) (read : DeletionText) → ReadsAs text now read → BeginsDeletion text

-- what begins with `SELECT` and a space begins as no deletion
abbrev pub NoSelectBegins : Type 0
NoSelectBegins = (behind : List ℕ) → BeginsDeletion (codes "SELECT " ++ behind) → ⊥

-- a text is one deletion at most
abbrev pub OneDeletion : Type 0
OneDeletion = (text : List ℕ) (now : ℤ) (read other : DeletionText) → ReadsAs text now read → ReadsAs text now other → read ≡ other

-- no text is a SHOW and a deletion
abbrev pub NoShowIsDeletion : Type 0
NoShowIsDeletion = (text : List ℕ) (now : ℤ) (what : Show) (read : DeletionText) → IsShow text what → ReadsAs text now read → ⊥
