-- What does the code know of a deletion that it read, before it is refused or answered? Words of the contracts within.
use Rattle.std.specs.Prelude.{◌≡◌, ◌≤◌, true, false, Option, Some, List, length, All}
use Rattle.std.specs.List.{list_any, list_all}
use Rattle.point_model.specs.Conditions.{Condition, texts_of, nesting}
use Rattle.point_model.specs.Sizes.{condition_length}
use Rattle.point_model.specs.declared.deletion.Deletion.{Deletion}
use Rattle.influxql_parser.specs.declared.fault.ReadFault.{ReadFault}
use Rattle.influxql_parser.specs.declared.fault.ReadFault.TheVariants.{Syntax, TimeInOr, NumberRange, Memory}
use Rattle.influxql_parser.specs.declared.piece.Piece.{Piece}
use Rattle.influxql_parser.specs.declared.statement.Parts.{Parts}
use Rattle.influxql_parser.specs.declared.statement.Where.{Where}
use Rattle.influxql_parser.specs.Bounds.{lower_bound, upper_bound, times_between}
use Rattle.influxql_parser.specs.Deletions.{tests_of, tags_of, has_time_in_or, is_out_of_range}
use Rattle.influxql_parser.specs.GrammarConditions.{Either, either_pieces, nests_within, tests_in, is_of_time}
use Rattle.influxql_parser.specs.GrammarDeletions.{DeletionText, is_of_tag_or_time}

-- a log has room for the condition, with a measurement of at most 65,535 bytes
pub record IsShortEnough (tags : Condition) : Type 0 where
  pub texts : All (λ text. length text ≤ 65535) (texts_of tags)
  pub nested : nesting tags ≤ 65536
  pub fits : condition_length tags ≤ 1073676258

-- what is told of a condition, or of none
pub record IsReadOf (condition : Option Either) (told : Where) : Type 0 where
  pub tags : told.asked.tags ≡ tags_of condition
  pub faulty : told.asked.faulty ≡ has_time_in_or condition
  pub timed : told.facts.timed ≡ list_any is_of_time (tests_of condition)
  pub out_of_range : told.facts.out_of_range ≡ list_any is_out_of_range (tests_of condition)
  pub lower : told.facts.lower ≡ lower_bound (tests_of condition)
  pub upper : told.facts.upper ≡ upper_bound (tests_of condition)
  pub room : told.fits ≡ true → IsShortEnough (tags_of condition)

-- the pieces are those of this condition, and a deletion may have it
pub record IsOfPieces (pieces : List Piece) (condition : Either) : Type 0 where
  pub same : either_pieces condition ≡ pieces
  pub nested : nests_within 0 pieces ≡ true
  pub tested : list_all is_of_tag_or_time (tests_in pieces) ≡ true

-- what is told is told of a condition of this kind
abbrev pub IsReadWhere : (Either → Type 0) → Where → Type 0
IsReadWhere Is told = (condition : Either) × Is condition × IsReadOf (Some condition) told

abbrev pub HasNoCondition : (Either → Type 0) → Type 0
HasNoCondition Is = (condition : Either) → Is condition → ⊥

-- the same of a condition or none
abbrev pub IsReadMaybe : (Option Either → Type 0) → Where → Type 0
IsReadMaybe Is told = (condition : Option Either) × Is condition × IsReadOf condition told

abbrev pub IsNoneOf : (Option Either → Type 0) → Type 0
IsNoneOf Is = (condition : Option Either) → Is condition → ⊥

-- the parts are those of a deletion that is read so
pub record IsReadFrom (Reads : DeletionText → Type 0) (parts : Parts) : Type 0 where
  pub read : DeletionText
  pub reads : Reads read
  pub measurement : parts.measurement ≡ read.measurement
  pub condition : IsReadOf read.condition parts.condition

-- the deletion that parts mean
abbrev pub meant_by : Parts → Deletion
meant_by parts = record {
  measurement = parts.measurement;
  tags = parts.condition.asked.tags;
  from = (times_between parts.condition.facts.lower parts.condition.facts.upper).0;
  to = (times_between parts.condition.facts.lower parts.condition.facts.upper).1;
}

-- parts that are refused for nothing mean this deletion
pub record IsMeantBy (parts : Parts) (deletion : Deletion) : Type 0 where
  pub apart : parts.condition.asked.faulty ≡ false
  pub in_range : parts.condition.facts.out_of_range ≡ false
  pub means : deletion ≡ meant_by parts
  pub short : length parts.measurement ≤ 65535
  pub fits : parts.condition.fits ≡ true

abbrev pub IsFaultOf : Parts → ReadFault → Type 0
IsFaultOf parts Syntax = ⊥
IsFaultOf parts TimeInOr = parts.condition.asked.faulty ≡ true
IsFaultOf parts NumberRange = (parts.condition.asked.faulty ≡ false) × (parts.condition.facts.out_of_range ≡ true)
IsFaultOf parts Memory = Unit {0}
