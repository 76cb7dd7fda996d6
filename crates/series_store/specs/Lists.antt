-- Which series do records have, and which id has a series?
use Rattle.std.specs.Prelude.{◌≡◌, ◌≢◌, ℕ, ◌+◌, ◌^◌, ◌≤◌, nat_eq, List, [], ◌++◌, length, slice_get, Some, Contains}
use Rattle.std.specs.List.{AllByRecursion, IsDistinct}
use Rattle.std.specs.Cmp.Lexicographic.{pointwise}
use Rattle.tsdb_types.specs.declared.point.Point.{Point}
use Rattle.gate_log.specs.Following.{Grammar, Leads, plain_grammar}
use Rattle.series_store.specs.Format.{HasRoom, IsWritable, record_bytes}

-- the most series that a file may have
abbrev pub most_series : ℕ
most_series = 10000000

-- the id of a series is its place among all, counted from 0
abbrev pub HasId : List (List ℕ) → List ℕ → ℕ → Type 0
HasId series key id = slice_get series id ≡ Some key

-- it is none of the series
abbrev pub HasNoId : List (List ℕ) → List ℕ → Type 0
HasNoId series key = (id : ℕ) → slice_get series id ≢ Some key

-- the series of a file: none stands twice, and there are at most 10,000,000
pub record IsList (series : List (List ℕ)) : Type 0 where
  pub distinct : IsDistinct (pointwise nat_eq) series
  pub few : length series ≤ most_series

-- the series that a record holds stand behind those before it
pub record Takes (before : List (List ℕ)) (body : List ℕ) (all : List (List ℕ)) : Type 0 where
  pub more : List (List ℕ)
  pub written : IsWritable more
  pub are : body ≡ record_bytes more
  pub behind : all ≡ before ++ more
  pub sound : IsList all

-- how the records of a series file are read
abbrev pub series_grammar : Grammar (List (List ℕ))
series_grammar = plain_grammar Takes

-- the records hold these series, one list behind the other
abbrev pub Hold : List (List ℕ) → List (List ℕ) → Type 0
Hold records series = Leads series_grammar [] records series

-- a point of these is of the series
abbrev pub IsSeriesOf : List Point → List ℕ → Type 0
IsSeriesOf points key = (point : Point) × Contains points point × (point.cell.series ≡ key)

-- Series that may be added to those held: each is new and stands once, and all have room in one record and in the file.
pub record MayAdd (held more : List (List ℕ)) : Type 0 where
  pub distinct : IsDistinct (pointwise nat_eq) more
  pub fresh : AllByRecursion (HasNoId held) more
  pub few : length held + length more ≤ most_series
  pub room : AllByRecursion HasRoom more
  pub short : length (record_bytes more) ≤ 2 ^ 30
