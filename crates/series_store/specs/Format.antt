-- Which bytes is a record of series?
use Rattle.std.specs.Prelude.{ℕ, ◌^◌, ◌<◌, ◌≤◌, List, ◌++◌, length, IsUtf8}
use Rattle.std.specs.List.{flat_map, AllByRecursion}
use Rattle.fixed_width.specs.Fields.{bytes_of_u16, bytes_of_u32}
use Rattle.tsdb_types.specs.Series.{IsSeriesText}

-- the text of a series key
abbrev pub IsKey : List ℕ → Type 0
IsKey text = IsUtf8 text × IsSeriesText text

-- a text whose length fits two bytes
abbrev pub HasRoom : List ℕ → Type 0
HasRoom text = length text < 2 ^ 16

-- one series: the length of its text in two bytes, and the text
abbrev pub series_bytes : List ℕ → List ℕ
series_bytes text = bytes_of_u16 (length text) ++ text

-- the count of series in four bytes, and one behind the other
abbrev pub record_bytes : List (List ℕ) → List ℕ
record_bytes series = bytes_of_u32 (length series) ++ flat_map series_bytes series

-- series that a record can hold: keys with room for their texts, and at most 2 ^ 30 bytes in all
pub record IsWritable (series : List (List ℕ)) : Type 0 where
  pub keys : AllByRecursion IsKey series
  pub room : AllByRecursion HasRoom series
  pub short : length (record_bytes series) ≤ 2 ^ 30
