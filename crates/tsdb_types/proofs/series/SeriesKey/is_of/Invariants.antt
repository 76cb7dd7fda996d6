use Rattle.std.proofs.Common.{◌≡◌, drop}
use Rattle.tsdb_types.specs.Series.{is_series_of}
use Rattle.tsdb_types.proofs.series.SeriesKey.is_of.Given as goal

abbrev pub invariant-loop-byte : goal.invariant-loop-byte
invariant-loop-byte l = is_series_of (drop l.byte-index l.measurement) l.left ≡ is_series_of l.measurement l.self
