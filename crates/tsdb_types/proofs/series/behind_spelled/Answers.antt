use Rattle.std.proofs.Common.{◌∷◌, ◌∙◌, sym}
use Rattle.tsdb_types.specs.Series.{measurement_text}
use Rattle.tsdb_types.proofs.SeriesLemmas.{series_of-escaped}
use Rattle.tsdb_types.proofs.series.behind_spelled.Goals as goal

pub returns-in-None-clause-other : goal.returns-in-None-clause-other
returns-in-None-clause-other c = λ name.
    series_of-escaped c.args.byte name c.args.key.now (sym c.contains.ensures.value ∙ c.if-not-contains.false) ∙ c.in-None.ensures.other (c.args.byte ∷ measurement_text name)

pub returns-in-None-behind-clause-other : goal.returns-in-None-behind-clause-other
returns-in-None-behind-clause-other c = λ name.
    series_of-escaped c.args.byte name c.args.key.now (sym c.contains.ensures.value ∙ c.if-not-contains.false) ∙ c.in-Some.ensures.found (c.args.byte ∷ measurement_text name) ∙ c.in-None-behind.ensures.other (measurement_text name)

pub returns-in-Some-behind-clause-found : goal.returns-in-Some-behind-clause-found
returns-in-Some-behind-clause-found c = λ name.
    series_of-escaped c.args.byte name c.args.key.now (sym c.contains.ensures.value ∙ c.if-not-contains.false) ∙ c.in-Some.ensures.found (c.args.byte ∷ measurement_text name) ∙ c.in-Some-behind.ensures.found (measurement_text name)
