use Rattle.std.proofs.Common.{◌≡◌, ◌≤◌, ◌++◌, ◌∷◌, [], ℕ, List, length, nat_eq, refl, sym, ap, subst, ◌∙◌, append_assoc, append-nil, arith}
use Rattle.std.specs.List.{AllByRecursion, IsDistinct}
use Rattle.std.specs.Cmp.Lexicographic.{pointwise}
use Rattle.std.specs.Vec.Iter.{into_iter_items}
use Rattle.indexmap.specs.IndexSet.{spare}
use Rattle.series_store.specs.Lists.{HasNoId}
use Rattle.series_store.proofs.ListLemmas.{distinct_parts, fresh_more}
use Rattle.series_store.proofs.held.hold_all.Goals as goal

nothing_left : {X : Type 0} (l : List X) → length l ≡ 0 → l ≡ []
nothing_left [] none = refl
nothing_left (x ∷ xs) none = absurd (omega (arith, none))

pub loop-key-init : goal.loop-key-init
loop-key-init c =
    let are = c.into_iter-key-iterator.ensures.into_iter_gives.0 in
    record {
      all = refl;
      fresh = subst (AllByRecursion (HasNoId c.args.held.now.keys)) (sym are) c.requires.fresh;
      distinct = subst (IsDistinct (pointwise nat_eq)) (sym are) c.requires.distinct;
      room = subst (λ (l : List (List ℕ)). length l ≤ spare c.args.held.now) (sym are) c.requires.room;
      len = c.into_iter-key-iterator.ensures.into_iter_gives.1 ∙ c.args.series.ok.0 ∙ ap length (sym are);
    }

pub hold-requires : goal.hold-requires
hold-requires c =
    let at = c.loop-key.invariant in
    let steps : into_iter_items c.loop-key.key-iterator ≡ c.in-Some.key ∷ into_iter_items c.next.new.self = c.in-Some.ensures.steps.0 in
    record {
      fresh = (subst (AllByRecursion (HasNoId c.loop-key.held.keys)) steps at.fresh).0;
      room = omega (arith, at.room, ap length steps);
    }

pub loop-key-preserved : goal.loop-key-preserved
loop-key-preserved c =
    let at = c.loop-key.invariant in
    let held = c.loop-key.held.keys in
    let key = c.in-Some.key in
    let left = into_iter_items c.next.new.self in
    let steps : into_iter_items c.loop-key.key-iterator ≡ key ∷ left = c.in-Some.ensures.steps.0 in
    let parts = distinct_parts key left (subst (IsDistinct (pointwise nat_eq)) steps at.distinct) in
    record {
      all = ap (λ (l : List (List ℕ)). l ++ left) c.hold.ensures.keys ∙ append_assoc held (key ∷ []) left ∙ ap (λ (l : List (List ℕ)). held ++ l) (sym steps) ∙ at.all;
      fresh = subst (λ (l : List (List ℕ)). AllByRecursion (HasNoId l) left) (sym c.hold.ensures.keys) (fresh_more held key left (subst (AllByRecursion (HasNoId held)) steps at.fresh).1 parts.0);
      distinct = parts.1;
      room = omega (arith, at.room, ap length steps, c.hold.ensures.room);
      len = omega (arith, at.len, ap length steps, c.in-Some.ensures.steps.1);
    }

pub returns : goal.returns
returns c =
    let at = c.loop-key.invariant in
    let empty : into_iter_items c.loop-key.key-iterator ≡ [] = nothing_left _ (sym at.len ∙ c.in-None.ensures.steps.0) in
    sym (append-nil c.loop-key.held.keys) ∙ ap (λ (l : List (List ℕ)). c.loop-key.held.keys ++ l) (sym empty) ∙ at.all
    ∙ ap (λ (l : List (List ℕ)). c.args.held.now.keys ++ l) c.into_iter-key-iterator.ensures.into_iter_gives.0
