-- Which kinds were noted of the fields of points?
use Rattle.std.specs.Prelude.{◌≡◌, ◌≢◌, ◌⊎◌, Bool, false, IsTrue, Some, None}
use Rattle.std.specs.BTreeMap.{BTreeMap, get}
use Rattle.tsdb_types.specs.Values.{kind_of}
use Rattle.tsdb_types.specs.declared.point.Point.{Point}
use Rattle.tsdb_types.specs.declared.value.Kind.{Kind}
use Rattle.point_model.specs.Cursors.{Key, key_cmp}
use Rattle.point_model.specs.Measurements.{measurement_head}

-- the measurement and the field of a point
abbrev pub field_of : Point → Key
field_of point = (measurement_head point.cell.series, point.cell.field)

-- Where the field had no other kind, it has the point's, and every other field what it had; else it has another.
pub record Notes (point : Point) (alike : Bool) (old new : BTreeMap Key Kind) : Type 0 where
  pub had : alike ≡ false → (kind : Kind) × (get key_cmp old (field_of point) ≡ Some kind) × (kind ≢ kind_of point.value)
  pub has : IsTrue alike → get key_cmp new (field_of point) ≡ Some (kind_of point.value)
  pub others : IsTrue alike → (key : Key) → (get key_cmp new key ≡ get key_cmp old key) ⊎ ((key ≡ field_of point) × (get key_cmp old key ≡ None))
