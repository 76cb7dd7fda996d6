use Rattle.std.proofs.Common.{ℕ, ◌+◌, List, drop}
use Rattle.std.proofs.lemmas.List.{at_drop_more}
use Rattle.tsdb_types.specs.Series.{is_series_of}
use Rattle.tsdb_types.proofs.series.SeriesKey.is_of.Goals as goal

pub returns-in-None : goal.returns-in-None
returns-in-None c =
    let step = at_drop_more (λ (name : List ℕ). is_series_of name c.loop-byte.left.now) c.as_bytes-byte-items.result.now c.loop-byte.byte-index 0 c.loop-byte-test.true in
    let none = c.in-None.ensures.other (drop (c.loop-byte.byte-index + 1) c.args.measurement.now) in
    cc (c.loop-byte.invariant, c.as_bytes-byte-items.ensures.value, c.as_str.ensures.text)

pub loop-byte-preserved : goal.loop-byte-preserved
loop-byte-preserved c =
    let step = at_drop_more (λ (name : List ℕ). is_series_of name c.loop-byte.left.now) c.as_bytes-byte-items.result.now c.loop-byte.byte-index 0 c.loop-byte-test.true in
    let found = c.in-Some.ensures.found (drop (c.loop-byte.byte-index + 1) c.args.measurement.now) in
    cc (c.loop-byte.invariant, c.as_bytes-byte-items.ensures.value, c.as_str.ensures.text)
