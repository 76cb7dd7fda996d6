-- Which records meet a condition on tags and fields?
use Rattle.std.specs.Prelude.{ℕ, ℤ, pos, Bool, true, false, not, ◌&&◌, ◌||◌, List, Option, Some, None, if◌then◌else◌}
use Rattle.std.specs.declared.cmp.Ordering.{Ordering}
use Rattle.std.specs.declared.cmp.Ordering.TheVariants.{Less, Equal, Greater}
use Rattle.std.specs.Ordering.{int_cmp}
use Rattle.std.specs.Str.{bytes_eq}
use Rattle.tsdb_types.specs.declared.value.Value.{Value}
use Rattle.tsdb_types.specs.declared.value.Value.TheVariants as value
use Rattle.point_model.specs.Tags.{tag_text}
use Rattle.query_model.specs.declared.condition.Literal.{Literal}
use Rattle.query_model.specs.declared.condition.Literal.TheVariants as literal
use Rattle.query_model.specs.declared.condition.Op.{Op}
use Rattle.query_model.specs.declared.condition.Op.TheVariants.{Eq, Ne, Lt, Le, Gt, Ge}
use Rattle.query_model.specs.Records.{Record, value_in}

-- That a tag or a field passes a comparison with a literal; that both sides are met, or one of them. Each record meets `True`.
pub data Condition : Type 0 where
  True : Condition
  Compare : List ℕ → Op → Literal → Condition
  And : Condition → Condition → Condition
  Or : Condition → Condition → Condition

abbrev pub is_below : Ordering → Bool
is_below Less = true
is_below Equal = false
is_below Greater = false

abbrev pub is_equal : Ordering → Bool
is_equal Less = false
is_equal Equal = true
is_equal Greater = false

-- values that stand so to one another pass the comparison
abbrev pub passes : Op → Ordering → Bool
passes Eq order = is_equal order
passes Ne order = not (is_equal order)
passes Lt order = is_below order
passes Le order = is_below order || is_equal order
passes Gt order = not (is_below order || is_equal order)
passes Ge order = not (is_below order)

-- whether two things that have no order are the same passes a comparison for equality alone
abbrev pub passes_equality : Op → Bool → Bool
passes_equality Eq same = same
passes_equality Ne same = not same
passes_equality Lt same = false
passes_equality Le same = false
passes_equality Gt same = false
passes_equality Ge same = false

-- a tag compares with a text, for equality
abbrev pub tag_passes : Op → List ℕ → Literal → Bool
tag_passes op tag (literal.Text text) = passes_equality op (bytes_eq tag text)
tag_passes op tag (literal.Int number) = false
tag_passes op tag (literal.Uint number) = false
tag_passes op tag (literal.Bool truth) = false

abbrev pub is_same_truth : Bool → Bool → Bool
is_same_truth true truth = truth
is_same_truth false truth = not truth

-- a number compares with a number, signed or unsigned, by what they are
abbrev pub number_passes : Op → ℤ → Literal → Bool
number_passes op number (literal.Int other) = passes op (int_cmp number other)
number_passes op number (literal.Uint other) = passes op (int_cmp number (pos other))
number_passes op number (literal.Text text) = false
number_passes op number (literal.Bool truth) = false

abbrev pub truth_passes : Op → Bool → Literal → Bool
truth_passes op truth (literal.Bool other) = passes_equality op (is_same_truth truth other)
truth_passes op truth (literal.Text text) = false
truth_passes op truth (literal.Int number) = false
truth_passes op truth (literal.Uint number) = false

abbrev pub value_passes : Op → Value → Literal → Bool
value_passes op (value.Int number) literal = number_passes op number literal
value_passes op (value.Uint number) literal = number_passes op (pos number) literal
value_passes op (value.Bool truth) literal = truth_passes op truth literal

-- a record without the field passes no comparison of it
abbrev pub field_passes : Op → Option Value → Literal → Bool
field_passes op None literal = false
field_passes op (Some value) literal = value_passes op value literal

-- a comparison is of a field where its name is one, else of a tag; a tag that a series lacks has the empty text
abbrev pub compares : (List ℕ → Bool) → List ℕ → Op → Literal → Record → Bool
compares is_field name op literal this =
    if is_field name then field_passes op (value_in name this) literal else tag_passes op (tag_text name this.series) literal

-- the record meets the condition, where these names are fields and all others are tags
abbrev pub meets_condition : (List ℕ → Bool) → Condition → Record → Bool
meets_condition is_field True this = true
meets_condition is_field (Compare name op literal) this = compares is_field name op literal this
meets_condition is_field (And first second) this = meets_condition is_field first this && meets_condition is_field second this
meets_condition is_field (Or first second) this = meets_condition is_field first this || meets_condition is_field second this
