-- What does a SHOW list of the points?
use Rattle.std.specs.Prelude.{ℕ, List, [], ◌∷◌, ◌++◌, codes, map, filter, flat_map, Option, Some, None, if◌then◌else◌}
use Rattle.std.specs.Str.{bytes_eq}
use Rattle.tsdb_types.specs.Series.{escaped, measurement_ends_at, tag_ends_at}
use Rattle.tsdb_types.specs.Spelled.{unescaped}
use Rattle.tsdb_types.specs.Values.{kind_of}
use Rattle.tsdb_types.specs.declared.value.Kind.{Kind}
use Rattle.tsdb_types.specs.declared.value.Kind.TheVariants.{Integer, Unsigned, Boolean}
use Rattle.point_model.specs.Measurements.{measurement_head}
use Rattle.point_model.specs.Points.{Points}
use Rattle.point_model.specs.Tags.{tags_in}
use Rattle.query_model.specs.declared.lists.HeadedList.{HeadedList}
use Rattle.query_model.specs.declared.show.Show.{Show}
use Rattle.query_model.specs.declared.show.Show.TheVariants as show
use Rattle.query_model.specs.Records.{ascending, fields_of_measurement, points_of_measurement, tag_keys_of}

-- a name as it is printed, with a backslash before each comma, equals sign and space
abbrev pub printed : List ℕ → List ℕ
printed = escaped tag_ends_at

-- the same of a tag's value, of which one could be taken for an absent one
abbrev pub printed_value : List ℕ → List ℕ
printed_value value = if bytes_eq value (codes "-") then codes "\\-" else printed value

abbrev pub measurement_of_series : List ℕ → List ℕ
measurement_of_series series = unescaped measurement_ends_at (measurement_head series)

-- the measurements that have points, ascending
abbrev pub measurements_of : Points → List (List ℕ)
measurements_of points = ascending (map (λ point. measurement_of_series point.0.series) points)

-- those that are asked for: all, or this one where it has points
abbrev pub asked : Option (List ℕ) → Points → List (List ℕ)
asked None points = measurements_of points
asked (Some measurement) points = filter (bytes_eq measurement) (measurements_of points)

abbrev pub series_of : List ℕ → Points → List (List ℕ)
series_of measurement points = map (λ point. point.0.series) (points_of_measurement measurement points)

-- the values that the tags with this key have in a measurement, ascending
abbrev pub tag_values_of : List ℕ → List ℕ → Points → List (List ℕ)
tag_values_of key measurement points =
    ascending (flat_map (λ series. map (λ tag. tag.value) (filter (λ tag. bytes_eq tag.key key) (tags_in series))) (series_of measurement points))

abbrev pub kind_name : Kind → List ℕ
kind_name Integer = codes "integer"
kind_name Unsigned = codes "unsigned"
kind_name Boolean = codes "boolean"

-- the field of the first point with the kind of its value
abbrev pub first_field : Points → List (List ℕ)
first_field [] = []
first_field (point ∷ others) = (printed point.0.field ++ codes " " ++ kind_name (kind_of point.1)) ∷ []

-- a field with the kind of its values in a measurement
abbrev pub kind_line : List ℕ → List ℕ → Points → List (List ℕ)
kind_line measurement field points = first_field (filter (λ point. bytes_eq point.0.field field) (points_of_measurement measurement points))

-- a list under its heading; one without lines isn't there
abbrev pub headed : List (List ℕ) → List (List ℕ) → List HeadedList
headed head [] = []
headed head (line ∷ lines) = record { head = head; lines = line ∷ lines } ∷ []

-- a list for a measurement, headed by its name and by what stands in the list
abbrev pub headed_by : List ℕ → List ℕ → List (List ℕ) → List HeadedList
headed_by measurement title lines = headed ((codes "name: " ++ printed measurement) ∷ title ∷ []) lines

-- what is listed of a measurement
abbrev pub list_of : Show → Points → List ℕ → List HeadedList
list_of (show.TagKeys from) points measurement = headed_by measurement (codes "tagKey") (map printed (tag_keys_of measurement points))
list_of (show.TagValues from key) points measurement =
    headed_by measurement (codes "key value")
    (map (λ value. printed key ++ codes " " ++ printed_value value) (tag_values_of key measurement points))
list_of (show.FieldKeys from) points measurement =
    headed_by measurement (codes "fieldKey fieldType") (flat_map (λ field. kind_line measurement field points) (fields_of_measurement measurement points))
list_of show.Measurements points measurement = []
list_of (show.Series from) points measurement = []
list_of show.Files points measurement = []

-- The lists of a SHOW, each once and ascending by the names themselves, series by their texts. SHOW FILES lists what a store
-- has, and nothing of the points.
abbrev pub show_lists : Points → Show → List HeadedList
show_lists points show.Measurements = headed (codes "name: measurements" ∷ codes "name" ∷ []) (map printed (measurements_of points))
show_lists points (show.Series from) = headed (codes "key" ∷ []) (ascending (flat_map (λ measurement. series_of measurement points) (asked from points)))
show_lists points (show.TagKeys from) = flat_map (list_of (show.TagKeys from) points) (asked from points)
show_lists points (show.TagValues from key) = flat_map (list_of (show.TagValues from key) points) (asked from points)
show_lists points (show.FieldKeys from) = flat_map (list_of (show.FieldKeys from) points) (asked from points)
show_lists points show.Files = []
