-- What is kept of a head that stood in a line of the batch.
use Rattle.std.specs.Prelude.{◌≡◌, ℕ, Bool, None, List}
use Rattle.tsdb_types.specs.Series.{measurement_ends_at, IsKeyOf}
use Rattle.line_protocol.specs.Heads.{head_code, measurement_part, measurement_of, tags_of, has_time_tag}
use Rattle.line_protocol.specs.Lines.{is_cut_short}
use Rattle.line_protocol.specs.Texts.{IsSpelling}

-- the head, its measurement as it is spelled, and the key of its series; whether a tag is named `time`, and whether a mark cuts the keys of the series
pub record KnownHead : Type 0 where
  pub head : List ℕ
  pub measurement : List ℕ
  pub series : List ℕ
  pub reserved : Bool
  pub marked : Bool

-- the head has no fault, and the rest is what it names
pub record IsKnown (known : KnownHead) : Type 0 where
  pub sound : head_code known.head ≡ None
  pub measurement_is : known.measurement ≡ measurement_part known.head
  pub spelling : IsSpelling measurement_ends_at known.measurement
  pub key : IsKeyOf (measurement_of known.head) (tags_of known.head) known.series
  pub reserves : known.reserved ≡ has_time_tag (tags_of known.head)
  pub marks : (field : List ℕ) → is_cut_short known.series field ≡ known.marked
