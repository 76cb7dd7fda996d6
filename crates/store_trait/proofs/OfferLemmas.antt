-- A field keeps its first sample, and what is offered afterwards comes too late.
use Rattle.std.proofs.Common.{◌≡◌, ◌∙◌, ap, sym, refl, Bool, true, false, cond, List, ℕ, Option, Some, None, is_some}
use Rattle.std.specs.BTreeMap.{BTreeMap, get, is_at}
use Rattle.std.specs.Option.{option_or}
use Rattle.std.proofs.lemmas.Bool.{false≢true}
use Rattle.std.proofs.lemmas.Map.Lookups.{exact_bytes}
use Rattle.std.proofs.lemmas.Map.Views.{tells_apart}
use Rattle.tsdb_types.specs.declared.point.Cell.{Cell}
use Rattle.store_trait.specs.Slots.{text_cmp}
use Rattle.store_trait.proofs.ConflictLemmas.{none_some}

or_none : (o : Option Cell) → option_or o None ≡ o
or_none None = refl
or_none (Some c) = refl

-- a field with a sample keeps it
pub kept_sample : (old : BTreeMap (List ℕ) Cell) (field : List ℕ) (cell : Option Cell) → is_some (get text_cmp old field) ≡ true → (f : List ℕ)
    → get text_cmp old f ≡ option_or (get text_cmp old f) (cond (is_at (text_cmp field) f) cell None)
kept_sample old field cell there f = by (is_at (text_cmp field) f) refl (get text_cmp old f) refl
  where
    by : (b : Bool) → is_at (text_cmp field) f ≡ b → (o : Option Cell) → get text_cmp old f ≡ o → o ≡ option_or o (cond b cell None)
    by true e None is = absurd (false≢true (sym (ap is_some is) ∙ ap (λ (k : List ℕ). is_some (get text_cmp old k)) (sym (tells_apart exact_bytes field f e)) ∙ there))
    by true e (Some x) is = refl
    by false e o is = sym (or_none o)

-- a field without one takes it
pub new_sample : (old : BTreeMap (List ℕ) Cell) (field : List ℕ) (cell : Cell) → get text_cmp old field ≡ None → (f : List ℕ)
    → cond (is_at (text_cmp field) f) (Some cell) (get text_cmp old f) ≡ option_or (get text_cmp old f) (cond (is_at (text_cmp field) f) (Some cell) None)
new_sample old field cell none f = by (is_at (text_cmp field) f) refl (get text_cmp old f) refl
  where
    by : (b : Bool) → is_at (text_cmp field) f ≡ b → (o : Option Cell) → get text_cmp old f ≡ o → cond b (Some cell) o ≡ option_or o (cond b (Some cell) None)
    by true e None is = refl
    by true e (Some x) is = absurd (none_some x (sym none ∙ ap (get text_cmp old) (tells_apart exact_bytes field f e) ∙ is))
    by false e o is = sym (or_none o)
