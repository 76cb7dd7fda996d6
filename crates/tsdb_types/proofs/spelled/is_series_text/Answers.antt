use Rattle.std.proofs.lemmas.Bool.{false≢true}
use Rattle.tsdb_types.proofs.SpelledTagLemmas.{series-text, no-series}
use Rattle.tsdb_types.proofs.spelled.is_series_text.Goals as goal

pub returns-in-None : goal.returns-in-None
returns-in-None c = (λ is. absurd (false≢true is), λ is. absurd (no-series c.args.text.now c.in-None.ensures.none is))

pub returns-in-Some : goal.returns-in-Some
returns-in-Some c =
    let whole = series-text c.args.text.now c.in-Some._measurement.now c.in-Some.tags.now c.in-Some.ensures.found in
    (λ is. whole.0 (c.are_tags.ensures.0 is), λ is. c.are_tags.ensures.1 (whole.1 is))
