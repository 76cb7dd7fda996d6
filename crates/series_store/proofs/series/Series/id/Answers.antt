use Rattle.std.proofs.Common.{◌≡◌, ℕ, List, nat_eq, Some, sym, ap, subst}
use Rattle.std.specs.List.{IsDistinct}
use Rattle.std.specs.Cmp.Lexicographic.{pointwise}
use Rattle.std.proofs.lemmas.Option.{none-some}
use Rattle.series_store.specs.Calls.{Kept}
use Rattle.series_store.specs.Lists.{HasId, HasNoId}
use Rattle.series_store.proofs.ListLemmas.{id_of, no_id, same_id}
use Rattle.series_store.proofs.series.Series.id.Goals as goal

some_is : (a b : ℕ) → Some a ≡ Some b → a ≡ b
some_is a b e = cc e

pub returns-in-Some-clause-found : goal.returns-in-Some-clause-found
returns-in-Some-clause-found c =
    let keys = c.args.self.now.keys in
    let key = c.args.key.now in
    let place = c.in-Some.place in
    let same = ap (λ (k : Kept). k.keys) c.self.view_is in
    let at : HasId keys key place = subst (λ (l : List (List ℕ)). HasId l key place) same (id_of c.self.inside.keys.keys key place (sym c.in-Some.ensures.index)) in
    λ id. (
      λ is. subst (HasId keys key) (some_is place id is) at,
      λ has. ap (λ (n : ℕ). Some n) (same_id keys key place id (subst (λ (l : List (List ℕ)). IsDistinct (pointwise nat_eq) l) same c.self.invariant.distinct) at has),
    )

pub returns-in-None-clause-none : goal.returns-in-None-clause-none
returns-in-None-clause-none c = subst (λ (l : List (List ℕ)). HasNoId l c.args.key.now) (ap (λ (k : Kept). k.keys) c.self.view_is) (no_id c.self.inside.keys.keys c.args.key.now (sym c.in-None.ensures.found))

pub returns-in-None-clause-found : goal.returns-in-None-clause-found
returns-in-None-clause-found c =
    let none : HasNoId c.args.self.now.keys c.args.key.now = subst (λ (l : List (List ℕ)). HasNoId l c.args.key.now) (ap (λ (k : Kept). k.keys) c.self.view_is) (no_id c.self.inside.keys.keys c.args.key.now (sym c.in-None.ensures.found)) in
    λ id. (λ is. absurd (none-some id is), λ has. absurd (none id has))
