use Rattle.std.proofs.Common.{◌∙◌, ap}
use Rattle.series_store.specs.Calls.{Kept}
use Rattle.log_tests.proofs.TwoSeries.{none_held}
use Rattle.log_tests.proofs.series.add_again.Goals as goal

pub prepare-requires : goal.prepare-requires
prepare-requires c = none_held _ _ c.new-series.ensures.keys (c.deref.ensures.value ∙ c.in_ok-keys.ensures)

pub add-requires-clause-may : goal.add-requires-clause-may
add-requires-clause-may c = λ lifetimes. none_held _ _ (ap (λ (k : Kept). k.keys) c.prepare.ensures.same ∙ c.new-series.ensures.keys) (c.in_ok-new.ensures.ok ∙ c.deref.ensures.value ∙ c.in_ok-keys.ensures)

pub prepare-requires-2 : goal.prepare-requires-2
prepare-requires-2 c = none_held _ _ (c.is_empty.ensures.0 c.if-not-is_empty.false) (c.deref-2.ensures.value ∙ c.in_ok-keys.ensures)

pub add-requires-2-clause-may : goal.add-requires-2-clause-may
add-requires-2-clause-may c = λ lifetimes.
    none_held _ _ (ap (λ (k : Kept). k.keys) c.prepare-2.ensures.same ∙ c.is_empty.ensures.0 c.if-not-is_empty.false) (c.in_ok-new-2.ensures.ok ∙ c.deref-2.ensures.value ∙ c.in_ok-keys.ensures)
