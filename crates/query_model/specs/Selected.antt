-- Which records does a SELECT keep, and how does it group them?
use Rattle.std.specs.Prelude.{ℕ, ℤ, pos, negsuc, int_le, nat_eq, Bool, true, false, ◌&&◌, List, [], ◌++◌, map, filter, fold, Option, Some, None, unwrap_or}
use Rattle.std.specs.Ordering.{nat_cmp}
use Rattle.std.specs.Cmp.Lexicographic.{pointwise, slice_cmp}
use Rattle.std.specs.BTreeSet.{insert_key}
use Rattle.point_model.specs.Points.{Points}
use Rattle.point_model.specs.Tags.{tag_text}
use Rattle.query_model.specs.declared.select.Select.{Select}
use Rattle.query_model.specs.Conditions.{meets_condition}
use Rattle.query_model.specs.Records.{Record, ascending, is_field, records_of, tag_keys_of}

-- the first and the last moment
abbrev pub first_moment : ℤ
first_moment = negsuc 9223372036854775805

abbrev pub last_moment : ℤ
last_moment = pos 9223372036854775806

-- an upper bound that isn't given is the last moment, but the statement's own with windows
abbrev pub upper_of : Option (ℤ × ℤ) → ℤ → ℤ
upper_of None moment = last_moment
upper_of (Some windows) moment = moment

-- the first time that counts
abbrev pub lowest_time : Select → ℤ
lowest_time select = unwrap_or select.lower first_moment

-- the last time that counts
abbrev pub highest_time : Select → ℤ
highest_time select = unwrap_or select.upper (upper_of select.windows select.moment)

-- the record's time lies between the bounds, both included
abbrev pub is_between_bounds : Select → Record → Bool
is_between_bounds select this = int_le (lowest_time select) this.time && int_le this.time (highest_time select)

-- the records of the measurement that meet the condition and lie between the bounds, by time and then by series
abbrev pub kept : Select → Points → List Record
kept select points =
    filter (λ this. is_between_bounds select this && meets_condition (is_field select.measurement points) select.cond this)
    (records_of select.measurement points)

abbrev pub all_keys : Bool → List (List ℕ) → List (List ℕ)
all_keys true keys = keys
all_keys false keys = []

-- the tags by which the records are grouped: those that are named, and all of the measurement where all are asked for, ascending
abbrev pub grouping_keys : Select → Points → List (List ℕ)
grouping_keys select points = ascending (select.tags ++ all_keys select.all_tags (tag_keys_of select.measurement points))

-- the texts of these tags in a series; a tag that it lacks has the empty text
abbrev pub texts_at : List (List ℕ) → Record → List (List ℕ)
texts_at keys this = map (λ key. tag_text key this.series) keys

-- the records that have the same texts of the grouping tags
pub record RecordGroup : Type 0 where
  pub texts : List (List ℕ)
  pub members : List Record

abbrev pub is_same_texts : List (List ℕ) → List (List ℕ) → Bool
is_same_texts = pointwise (pointwise nat_eq)

-- lists of texts that stand somewhere, each once, ascending
abbrev pub ascending_lists : List (List (List ℕ)) → List (List (List ℕ))
ascending_lists lists = fold (λ some texts. insert_key (slice_cmp (slice_cmp nat_cmp)) some texts) [] lists

-- the groups of records, ascending by their texts
abbrev pub groups_of : List (List ℕ) → List Record → List RecordGroup
groups_of keys records =
    map (λ texts. record { texts = texts; members = filter (λ this. is_same_texts texts (texts_at keys this)) records })
    (ascending_lists (map (texts_at keys) records))

abbrev pub record_groups : Select → Points → List RecordGroup
record_groups select points = groups_of (grouping_keys select points) (kept select points)
