use Rattle.std.proofs.Common.{ℕ, List, sym, subst}
use Rattle.series_store.specs.Calls.{Kept}
use Rattle.series_store.specs.Lists.{IsList, MayAdd}
use Rattle.series_store.proofs.HoldLemmas.{list_more}
use Rattle.series_store.proofs.series.Series.add.Goals as goal

pub invariant_of-self-2 : goal.invariant_of-self-2
invariant_of-self-2 g c =
    let may = subst (λ (l : List (List ℕ)). MayAdd c.args.self.now.keys l) (sym c.into_keys.ensures) c.requires.may in
    subst IsList (sym c.hold_all.ensures)
    (list_more c.self.inside.keys.keys c.into_keys.result.items c.self.invariant (subst (λ (k : Kept). MayAdd k.keys c.into_keys.result.items) (sym c.self.view_is) may))
