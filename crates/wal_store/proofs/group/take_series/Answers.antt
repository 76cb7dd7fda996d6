use Rattle.std.proofs.Common.{subst, Option, IsSome, ℕ, List}
use Rattle.std.proofs.lemmas.Bool.{false≢true}
use Rattle.tsdb_types.specs.Series.{IsSeriesText}
use Rattle.wal_store.proofs.TextLemmas.{other_series}
use Rattle.wal_store.proofs.group.take_series.Goals as goal

pub returns-in-None-clause-none : goal.returns-in-None-clause-none
returns-in-None-clause-none c =
    other_series IsSeriesText c.args.bytes.now c.in-Some.text.now c.in-Some.rest.now c.in-Some.ensures.found c.in-Some.ensures.text
    (λ is. false≢true (subst (λ (o : Option (List ℕ)). IsSome o) c.in-None.is (c.in_ok-series.ensures.exact.1 is)))
