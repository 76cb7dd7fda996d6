-- Which cells does a deletion take away, and which deletions can be logged?
use Rattle.std.specs.Prelude.{◌≤◌, int_le, Bool, not, ◌&&◌, length, filter, All}
use Rattle.tsdb_types.specs.Series.{is_series_of}
use Rattle.tsdb_types.specs.declared.point.Cell.{Cell}
use Rattle.point_model.specs.declared.deletion.Deletion.{Deletion}
use Rattle.point_model.specs.Conditions.{meets, texts_of, nesting}
use Rattle.point_model.specs.Points.{Points}
use Rattle.point_model.specs.Sizes.{deletion_length, most_bytes}

-- the cell is of a series of the measurement that meets the condition, and its time one of those between the bounds
abbrev pub is_deleted : Deletion → Cell → Bool
is_deleted deletion cell =
    (is_series_of deletion.measurement cell.series && meets deletion.tags cell.series)
    && (int_le deletion.from cell.time && int_le cell.time deletion.to)

-- the points without those that the deletion takes away
abbrev pub without : Points → Deletion → Points
without points deletion = filter (λ point. not (is_deleted deletion point.0)) points

-- A deletion that a log takes: its texts have at most 65,535 bytes, it is nested at most 65,536 deep, and a record has room for it.
pub record IsLoggable (deletion : Deletion) : Type 0 where
  pub measurement : length deletion.measurement ≤ 65535
  pub texts : All (λ text. length text ≤ 65535) (texts_of deletion.tags)
  pub nested : nesting deletion.tags ≤ 65536
  pub fits : deletion_length deletion ≤ most_bytes
