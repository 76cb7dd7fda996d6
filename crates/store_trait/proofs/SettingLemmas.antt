-- What the setting of points leaves in the slots.
use Rattle.std.proofs.Common.{◌≡◌, ◌∙◌, ap, sym, subst, refl, ⊎_elim, Bool, true, false, cond, Option, Some, IsSome, List, [], ◌∷◌, ◌++◌, ℕ, ◌<◌, ◌+◌, length, get_or, take, take-suc, add-one}
use Rattle.std.specs.BTreeMap.{is_at}
use Rattle.std.proofs.lemmas.Bool.{cases_Bool, cond-true, cond-false}
use Rattle.tsdb_types.specs.declared.point.Cell.{Cell}
use Rattle.tsdb_types.specs.declared.point.Point.{Point}
use Rattle.tsdb_types.specs.declared.value.Value.{Value}
use Rattle.point_model.specs.Points.{Points, cell_cmp, value_at, with_point}
use Rattle.point_model.specs.Histories.{with_points}
use Rattle.store_trait.specs.Slots.{Slots, slot_at, held}
use Rattle.store_trait.specs.Plain.{Agrees}
use Rattle.point_model.proofs.PointLemmas.{value_at-with_point}

pub stays_there : (old new : Slots) (point : Point)
    → ((q : Cell) → slot_at new q ≡ cond (is_at (cell_cmp point.cell) q) (Some (Some point.value)) (slot_at old q))
    → (q : Cell) → IsSome (slot_at old q) → IsSome (slot_at new q)
stays_there old new point set q there =
    ⊎_elim
    (λ (e : is_at (cell_cmp point.cell) q ≡ true). subst (λ (o : Option (Option Value)). IsSome o) (sym (set q ∙ cond-true _ (Some (Some point.value)) (slot_at old q) e)) refl)
    (λ (e : is_at (cell_cmp point.cell) q ≡ false). subst (λ (o : Option (Option Value)). IsSome o) (sym (set q ∙ cond-false _ (Some (Some point.value)) (slot_at old q) e)) there)
    (cases_Bool (is_at (cell_cmp point.cell) q))

held_set : (b : Bool) (v : Value) (slot : Option (Option Value)) → held (cond b (Some (Some v)) slot) ≡ cond b (Some v) (held slot)
held_set true v slot = refl
held_set false v slot = refl

pub with_points-last : (stored : Points) (points : List Point) (point : Point) → with_points stored (points ++ point ∷ []) ≡ with_point (with_points stored points) point
with_points-last stored [] point = refl
with_points-last stored (first ∷ points) point = with_points-last (with_point stored first) points point

pub set_one_more : (old new : Slots) (stored : Points) (points : List Point) (i : ℕ) (item : Point) → i < length points → item ≡ get_or points i item
    → ((q : Cell) → slot_at new q ≡ cond (is_at (cell_cmp item.cell) q) (Some (Some item.value)) (slot_at old q))
    → Agrees old (with_points stored (take i points)) → Agrees new (with_points stored (take (i + 1) points))
set_one_more old new stored points i item l is set agrees q =
    let before = with_points stored (take i points) in
    let more : take (i + 1) points ≡ take i points ++ item ∷ [] = ap (λ (k : ℕ). take k points) (add-one i) ∙ take-suc points i item l ∙ ap (λ (p : Point). take i points ++ p ∷ []) (sym is) in
    let one : with_points stored (take (i + 1) points) ≡ with_point before item = ap (λ (ps : List Point). with_points stored ps) more ∙ with_points-last stored (take i points) item in
    ap held (set q) ∙ held_set (is_at (cell_cmp item.cell) q) item.value (slot_at old q)
    ∙ ap (λ (o : Option Value). cond (is_at (cell_cmp item.cell) q) (Some item.value) o) (agrees q)
    ∙ sym (value_at-with_point before item q)
    ∙ ap (λ (ps : Points). value_at ps q) (sym one)
