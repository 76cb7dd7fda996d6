-- Laws of what views see.
use Rattle.std.specs.Prelude.{◌≡◌, ℤ, Bool, false, not, ◌&&◌, if◌then◌else◌, List, filter, reverse, None}
use Rattle.std.specs.List.Sorted.{IsStrictlySortedBy}
use Rattle.std.specs.Map.{keys_of}
use Rattle.tsdb_types.specs.declared.point.Cell.{Cell}
use Rattle.point_model.specs.declared.need.Need.{Need}
use Rattle.point_model.specs.Contents.{Content}
use Rattle.point_model.specs.Contents as contents
use Rattle.point_model.specs.Cursors.{Key, cell_at, in_order, rows_needed}
use Rattle.point_model.specs.Points.{Points, cell_cmp, value_at}
use Rattle.point_model.specs.Rows.{Row}
use Rattle.merge_cursor.specs.Overlays.{AreInOrder, overlay, value_of}
use Rattle.point_view.specs.Seen.{AreRowsUnder, AreSourcesOf, is_asked}

-- Rows of a layer that are asked for and not hidden are those of its content. The overlay of the sources of a key is what the overlay of their contents has of it. A content has one list of rows. Points have
-- those that a cursor over them gives. So contents that show the points together give these rows, in whatever files and caches
-- they are.
pub record ViewsSee : Type 0 where
  pub layer : (need : Need) (key : Key) (content : Content) (hidden : ℤ → Bool) (rows : List Row) → AreInOrder false rows
      → ((time : ℤ) → content (cell_at key time) ≡ (if hidden time then None else value_of rows time))
      → AreRowsUnder need key content (in_order need.descending (filter (λ (row : Row). is_asked need row.0 && not (hidden row.0)) rows))
  pub merged : (need : Need) (key : Key) (newest : List Content) (sources : List (List Row)) → AreSourcesOf need key newest sources
      → AreRowsUnder need key (contents.overlay (reverse newest)) (overlay need.descending sources)
  pub one : (need : Need) (key : Key) (content : Content) (rows others : List Row) → AreRowsUnder need key content rows → AreRowsUnder need key content others → rows ≡ others
  pub points : (need : Need) (key : Key) (points : Points) → IsStrictlySortedBy cell_cmp (keys_of points) → AreRowsUnder need key (value_at points) (rows_needed need points key)
  pub given : (need : Need) (key : Key) (points : Points) (newest : List Content) (sources : List (List Row)) → IsStrictlySortedBy cell_cmp (keys_of points)
      → ((cell : Cell) → contents.overlay (reverse newest) cell ≡ value_at points cell) → AreSourcesOf need key newest sources
      → overlay need.descending sources ≡ rows_needed need points key
