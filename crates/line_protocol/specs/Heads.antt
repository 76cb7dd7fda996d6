-- Which measurement and which tags the head of a line names.
use Rattle.std.specs.Prelude.{ℕ, ◌==◌, Bool, true, false, not, Option, Some, None, List, [], ◌∷◌, map, length, if◌then◌else◌}
use Rattle.std.specs.List.{list_any, list_all}
use Rattle.std.specs.Str.{bytes_eq}
use Rattle.tsdb_types.specs.Series.{measurement_ends_at, tag_ends_at}
use Rattle.tsdb_types.specs.declared.tag.Tag.{Tag}
use Rattle.line_protocol.specs.declared.fault.LineCode.{LineCode}
use Rattle.line_protocol.specs.declared.fault.LineCode.TheVariants.{NoMeasurement, BadTag}
use Rattle.line_protocol.specs.Names.{unescaped, key_part, value_part, is_tag}
use Rattle.line_protocol.specs.Parts.{front, rest, parts_behind}

-- what stands before the first comma
abbrev pub measurement_part : List ℕ → List ℕ
measurement_part head = front 44 false head

-- the name of the measurement
abbrev pub measurement_of : List ℕ → List ℕ
measurement_of head = unescaped measurement_ends_at (measurement_part head)

-- what stands behind each comma, up to the next one
abbrev pub tag_parts : List ℕ → List (List ℕ)
tag_parts head = parts_behind 44 (rest 44 false head)

-- the key and the value of a part; where only the keys are asked for, the value is the key again
abbrev pub tag_of : Bool → List ℕ → Tag
tag_of whole part = record { key = unescaped tag_ends_at (key_part part); value = unescaped tag_ends_at (if whole then value_part part else key_part part) }

-- the tags as they stand
abbrev pub tags_of : List ℕ → List Tag
tags_of head = map (tag_of true) (tag_parts head)

-- the code of the first two steps over a line: its measurement is empty, or some comma has no key, no equals sign or no value behind it
abbrev pub head_code : List ℕ → Option LineCode
head_code head =
    if length (measurement_part head) == 0 then Some NoMeasurement
    else if not (list_all is_tag (tag_parts head)) then Some BadTag else None

-- the word `time`
abbrev pub time_word : List ℕ
time_word = 116 ∷ 105 ∷ 109 ∷ 101 ∷ []

-- a tag is named `time`, exactly so
abbrev pub has_time_tag : List Tag → Bool
has_time_tag tags = list_any (λ tag. bytes_eq tag.key time_word) tags
