-- Which bytes are a block of points.
use Rattle.std.specs.Prelude.{◌≡◌, ◌≢◌, ℕ, ◌+◌, ℤ, List, ◌∷◌, ◌++◌, length, map}
use Rattle.tsdb_types.specs.declared.value.Kind.{Kind}
use Rattle.tsdb_types.specs.declared.value.Kind.TheVariants.{Integer, Unsigned, Boolean}
use Rattle.tsdb_types.specs.declared.value.Value.{Value}
use Rattle.word_codec.specs.Uvarint.{uvarint}
use Rattle.time_codec.specs.Times.{AreTimes, coded_times}
use Rattle.value_codec.specs.Coding.{AreOf, coded_as}

-- the byte that tells the kind of a block
abbrev pub type_byte : Kind → ℕ
type_byte Integer = 1
type_byte Boolean = 2
type_byte Unsigned = 4

abbrev pub times_of : List (ℤ × Value) → List ℤ
times_of points = map (λ point. point.0) points

abbrev pub values_of : List (ℤ × Value) → List Value
values_of points = map (λ point. point.1) points

-- 1 to 1,000 points of a kind, each later than the one before
pub record ArePoints (kind : Kind) (points : List (ℤ × Value)) : Type 0 where
  pub times : AreTimes (times_of points)
  pub alike : AreOf kind (values_of points)

-- the bytes of points of a kind: the type, how many bytes the times take, these, and the values; nothing follows
unfoldable pub coded_block : Kind → List (ℤ × Value) → List ℕ
coded_block kind points =
    (type_byte kind ∷ uvarint (length (coded_times (times_of points)))) ++ coded_times (times_of points) ++ coded_as kind (values_of points)

-- the bytes are a block of these points
pub record IsBlock (bytes : List ℕ) (points : List (ℤ × Value)) : Type 0 where
  pub kind : Kind
  pub points_are : ArePoints kind points
  pub spelled : coded_block kind points ≡ bytes

-- the first byte is this one, and no kind has it; bytes that are none have no first byte
pub record HasBadKind (byte : ℕ) (bytes : List ℕ) : Type 0 where
  pub behind : List ℕ
  pub first : bytes ≡ byte ∷ behind
  pub unknown : (kind : Kind) → type_byte kind ≢ byte
