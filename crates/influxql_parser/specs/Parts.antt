-- What is known of a part of a duration, and of a duration, whose nanoseconds may be more than 64 bits hold?
use Rattle.std.specs.Prelude.{◌≡◌, ℕ, Option, Some, List, length}
use Rattle.influxql_parser.specs.Numbers.{in_64_bits, part_at, parts_at}

-- the text begins with a part of these nanoseconds, and this stands behind it
pub record IsPart (text : List ℕ) (nanoseconds : Option ℕ) (behind : List ℕ) : Type 0 where
  pub whole : ℕ
  pub part : part_at text ≡ Some (whole, behind)
  pub fits : nanoseconds ≡ in_64_bits whole

-- the text begins with a duration of these nanoseconds, and this stands behind it
pub record IsDuration (text : List ℕ) (nanoseconds : Option ℕ) (behind : List ℕ) : Type 0 where
  pub first : ℕ × List ℕ
  pub part : part_at text ≡ Some first
  pub fits : nanoseconds ≡ in_64_bits (parts_at (length text) 0 text).0
  pub behind_is : behind ≡ (parts_at (length text) 0 text).1
