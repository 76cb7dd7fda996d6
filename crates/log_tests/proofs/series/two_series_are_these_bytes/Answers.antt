use Rattle.std.proofs.Common.{◌∙◌, ap}
use Rattle.series_store.specs.Calls.{Kept}
use Rattle.log_tests.proofs.TwoSeries.{none_held}
use Rattle.log_tests.proofs.series.two_series_are_these_bytes.Goals as goal

pub prepare-requires : goal.prepare-requires
prepare-requires g c = none_held _ _ c.new-series.ensures.keys (c.deref.ensures.value ∙ c.in_ok-keys.ensures)

pub add-requires-clause-may : goal.add-requires-clause-may
add-requires-clause-may g c = λ lifetimes. none_held _ _ (ap (λ (k : Kept). k.keys) c.prepare.ensures.same ∙ c.new-series.ensures.keys) (c.in_ok-new.ensures.ok ∙ c.deref.ensures.value ∙ c.in_ok-keys.ensures)
