-- Sources of which the first points were looked at.
use Rattle.std.proofs.Common.{◌≡◌, ◌∙◌, ap, ap₂, sym, refl, subst, ℕ, zero, suc, ◌<◌, ℤ, Bool, true, false, cond, List, [], ◌∷◌, length, set, get_or, All, Option, Some, None, slice_get, replicate, IsNone, arith}
use Rattle.std.specs.Ordering.{int_eq}
use Rattle.std.specs.List.{AllByRecursion}
use Rattle.std.proofs.lemmas.List.{length-map}
use Rattle.std.proofs.lemmas.List.Elements.{All-replicate, recursion_from_All}
use Rattle.tsdb_types.specs.declared.value.Value.{Value}
use Rattle.point_model.specs.Rows.{Row}
use Rattle.merge_cursor.specs.Overlays.{AreInOrder, overlay}
use Rattle.merge_cursor.specs.Steps.{IsNext, advanced, heads_of, rows_behind}
use Rattle.merge_cursor.proofs.StepLemmas.{advanced_in_order, overlay_next, overlay_none}
use Rattle.point_view.specs.Heads.{head_passed, heads_passed, with_head, with_heads}

-- the first heads are the first rows of their sources
abbrev pub Looked : ℕ → List (Option Row) → List (List Row) → Type 0
Looked zero heads sources = Unit {0}
Looked (suc k) [] sources = Unit {0}
Looked (suc k) (head ∷ heads) [] = Unit {0}
Looked (suc k) (head ∷ heads) (rows ∷ sources) = (head ≡ slice_get (with_head head rows) 0) × Looked k heads sources

pub looked_more : (k : ℕ) (heads : List (Option Row)) (sources : List (List Row)) (head : Option Row) (rows : List Row) → Looked k heads sources
    → head ≡ slice_get (with_head head rows) 0 → Looked (suc k) (set heads k head) (set sources k rows)
looked_more zero [] sources head rows so_far is = tt
looked_more zero (h ∷ heads) [] head rows so_far is = tt
looked_more zero (h ∷ heads) (r ∷ sources) head rows so_far is = (is, tt)
looked_more (suc k) [] sources head rows so_far is = tt
looked_more (suc k) (h ∷ heads) [] head rows so_far is = tt
looked_more (suc k) (h ∷ heads) (r ∷ sources) head rows so_far is = (so_far.0, looked_more k heads sources head rows so_far.1 is)

pub all_looked : (heads : List (Option Row)) (sources : List (List Row)) → length heads ≡ length sources → Looked (length sources) heads sources → heads ≡ heads_of (with_heads heads sources)
all_looked [] [] len looked = refl
all_looked [] (rows ∷ sources) len looked = absurd (omega (arith, len))
all_looked (head ∷ heads) [] len looked = absurd (omega (arith, len))
all_looked (head ∷ heads) (rows ∷ sources) len looked =
    ap₂ (λ (h : Option Row) (hs : List (Option Row)). h ∷ hs) looked.0 (all_looked heads sources (omega (arith, len)) looked.1)

-- what is left of a source is the same where its head is looked at
pub set_kept : (heads : List (Option Row)) (sources : List (List Row)) (k : ℕ) (head was_head : Option Row) (rows was : List Row) → k < length heads → k < length sources
    → was_head ≡ get_or heads k was_head → was ≡ get_or sources k was → with_head head rows ≡ with_head was_head was
    → with_heads (set heads k head) (set sources k rows) ≡ with_heads heads sources
set_kept [] sources k head was_head rows was less within at_head at is = absurd (omega arith)
set_kept (h ∷ heads) [] k head was_head rows was less within at_head at is = absurd (omega arith)
set_kept (h ∷ heads) (r ∷ sources) zero head was_head rows was less within at_head at is =
    ap (λ (l : List Row). l ∷ with_heads heads sources) (is ∙ ap₂ (λ (x : Option Row) (y : List Row). with_head x y) at_head at)
set_kept (h ∷ heads) (r ∷ sources) (suc k) head was_head rows was less within at_head at is =
    ap (λ (l : List (List Row)). with_head h r ∷ l) (set_kept heads sources k head was_head rows was (omega arith) (omega arith) at_head at is)

one_passed : (time : ℤ) (head : Option Row) (rows : List Row) → head ≡ slice_get (with_head head rows) 0 → with_head (head_passed time head) rows ≡ rows_behind time (with_head head rows)
one_passed time None [] is = refl
one_passed time None (row ∷ rows) is = absurd (cc is)
one_passed time (Some row) rows is =
    elim (int_eq time row.0) as (λ b. with_head (cond b None (Some row)) rows ≡ cond b rows (row ∷ rows)) [ true ↦ refl | false ↦ refl ]

-- the sources go on that stand at the time
pub all_passed : (time : ℤ) (heads : List (Option Row)) (sources : List (List Row)) → heads ≡ heads_of (with_heads heads sources)
    → length heads ≡ length sources → with_heads (heads_passed time heads) sources ≡ advanced time (with_heads heads sources)
all_passed time [] [] are len = refl
all_passed time [] (rows ∷ sources) are len = absurd (omega (arith, len))
all_passed time (head ∷ heads) [] are len = absurd (omega (arith, len))
all_passed time (head ∷ heads) (rows ∷ sources) are len =
    ap₂ (λ (l : List Row) (ls : List (List Row)). l ∷ ls) (one_passed time head rows (same_head head (slice_get (with_head head rows) 0) heads (heads_of (with_heads heads sources)) are))
    (all_passed time heads sources (same_rest head (slice_get (with_head head rows) 0) heads (heads_of (with_heads heads sources)) are) (omega (arith, len)))
  where
    same_head : (a b : Option Row) (xs ys : List (Option Row)) → a ∷ xs ≡ b ∷ ys → a ≡ b
    same_head a b xs ys e = cc e

    same_rest : (a b : Option Row) (xs ys : List (Option Row)) → a ∷ xs ≡ b ∷ ys → xs ≡ ys
    same_rest a b xs ys e = cc e

none_before : (heads : List (Option Row)) (sources : List (List Row)) → AllByRecursion (λ (head : Option Row). head ≡ None) heads → with_heads heads sources ≡ sources
none_before [] sources none = refl
none_before (head ∷ heads) [] none = refl
none_before (head ∷ heads) (rows ∷ sources) none =
    ap₂ (λ (h : Option Row) (ls : List (List Row)). with_head h rows ∷ ls) none.0 (none_before heads sources none.1)

-- sources that weren't looked at
pub none_looked : (count : ℕ) (sources : List (List Row)) → (let none : Option Row = None in with_heads (replicate count none) sources ≡ sources)
none_looked count sources =
    let none : Option Row = None in
    none_before (replicate count none) sources
    (recursion_from_All (λ (head : Option Row). head ≡ None) (replicate count none) (All-replicate (λ (head : Option Row). head ≡ None) count none refl))

-- the sources after a step
pub record Stepped (descending : Bool) (before : List (List Row)) (time : ℤ) (value : Value) (heads : List (Option Row)) (sources : List (List Row)) : Type 0 where
  pub gives : overlay descending before ≡ (time, value) ∷ overlay descending (with_heads heads sources)
  pub ordered : All (AreInOrder descending) (with_heads heads sources)
  pub len : length heads ≡ length sources

pub stepped : (descending : Bool) (before : List (List Row)) (heads : List (Option Row)) (sources : List (List Row)) (source : ℕ) (time : ℤ) (value : Value)
    → heads ≡ heads_of (with_heads heads sources) → with_heads heads sources ≡ before → length heads ≡ length sources → All (AreInOrder descending) before → IsNext descending heads source time value
    → Stepped descending before time value (heads_passed time heads) sources
stepped descending before heads sources source time value looked same len ordered next =
    let on : with_heads (heads_passed time heads) sources ≡ advanced time before = all_passed time heads sources looked len ∙ ap (λ (l : List (List Row)). advanced time l) same in
    let is : IsNext descending (heads_of before) source time value = subst (λ (hs : List (Option Row)). IsNext descending hs source time value) (looked ∙ ap (λ (l : List (List Row)). heads_of l) same) next in
    record {
      gives = overlay_next descending before source time value ordered is ∙ ap (λ (l : List (List Row)). (time, value) ∷ overlay descending l) (sym on);
      ordered = subst (All (AreInOrder descending)) (sym on) (advanced_in_order descending before time ordered);
      len = length-map heads (head_passed time) ∙ len;
    }

-- no head is left, and so nothing
pub ended : (descending : Bool) (heads : List (Option Row)) (sources : List (List Row)) → heads ≡ heads_of (with_heads heads sources) → All IsNone heads → overlay descending (with_heads heads sources) ≡ []
ended descending heads sources looked none = let laws = overlay_none descending (with_heads heads sources) in laws.0 (subst (All IsNone) looked none)
