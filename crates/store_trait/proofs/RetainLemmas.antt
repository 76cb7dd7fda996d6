-- What is read behind the keys of a map once some of its entries are gone.
use Rattle.std.proofs.Common.{◌≡◌, ◌∙◌, ap, sym, refl, subst, inl, inr, Bool, true, false, cond, List, [], ◌∷◌, Option, Some, None, option_and_then, Ordering, Less}
use Rattle.std.specs.BTreeMap.{is_at}
use Rattle.std.specs.List.Sorted.{IsStrictlySortedBy}
use Rattle.std.specs.Map.{keys_of, lookup}
use Rattle.std.specs.Ordering.{is_eq}
use Rattle.std.proofs.lemmas.Bool.{cond-false}
use Rattle.std.proofs.lemmas.Map.Lookups.{CmpEqualImpliesEq}
use Rattle.std.proofs.lemmas.Map.Views.{tells_apart}
use Rattle.std.specs.Map.Calls.{RetainsPairs}
use Rattle.store_trait.proofs.InLemmas.{In, sorted_first, sorted_rest}

pub none_either : {Y : Type 0} (b : Bool) → cond {A = Option Y} b None None ≡ None
none_either true = refl
none_either false = refl

pub and_some : {Y : Type 0} (o : Option Y) → option_and_then (λ y. Some y) o ≡ o
and_some None = refl
and_some (Some y) = refl

module _ {K X Y F : Type 0} {R : K → K → Ordering} (exact : CmpEqualImpliesEq R) (T : F → K → X → Bool → X → F → Type 0) (read : X → Option Y) (gone : K → Bool) (f : F) where
  -- a key that is below others isn't one of them
  absent_behind : (k : K) (es : List (K × X)) → ((y : K) → In y (keys_of es) → R k y ≡ Less) → lookup (is_at (R k)) es ≡ None
  absent_behind k [] all = refl
  absent_behind k (e ∷ es) all =
      cond-false (is_at (R k) e.0) (Some e.1) (lookup (is_at (R k)) es) (ap is_eq (all e.0 (inl refl))) ∙ absent_behind k es (λ y m. all y (inr m))

  -- the closure stays as it was, and reads as it should behind what it keeps
  abbrev Steps : Type 0
  Steps = (k : K) (v : X) (b : Bool) (w : X) (f' : F) → T f k v b w f'
      → (b ≡ true → read w ≡ cond (gone k) None (read v)) × (b ≡ false → cond (gone k) None (read v) ≡ None) × (f' ≡ f)

  -- what is read behind a key is what was, and nothing where it is gone
  pub retained : Steps → (es kept : List (K × X)) → IsStrictlySortedBy R (keys_of es) → RetainsPairs T f es kept → (q : K)
      → option_and_then read (lookup (is_at (R q)) kept) ≡ cond (gone q) None (option_and_then read (lookup (is_at (R q)) es))
  retained steps [] kept sorted r q = ap (λ (es : List (K × X)). option_and_then read (lookup (is_at (R q)) es)) r ∙ sym (none_either (gone q))
  retained steps (e ∷ es) kept sorted r q =
      ap (λ (xs : List (K × X)). option_and_then read (lookup (is_at (R q)) xs)) r.6
      ∙ by (is_at (R q) e.0) refl r.0 refl (retained steps es r.3 (sorted_rest R e.0 (keys_of es) sorted) (subst (λ (u : F). RetainsPairs T u es r.3) did.2 r.5) q)
    where
      did : (r.0 ≡ true → read r.1 ≡ cond (gone e.0) None (read e.1)) × (r.0 ≡ false → cond (gone e.0) None (read e.1) ≡ None) × (r.2 ≡ f)
      did = steps e.0 e.1 r.0 r.1 r.2 r.4

      passed : (b : Bool) → is_at (R q) e.0 ≡ b → option_and_then read (lookup (is_at (R q)) ((e.0, r.1) ∷ r.3)) ≡ option_and_then read (cond b (Some r.1) (lookup (is_at (R q)) r.3))
      passed b at = ap (λ (x : Bool). option_and_then read (cond x (Some r.1) (lookup (is_at (R q)) r.3))) at

      absent : q ≡ e.0 → lookup (is_at (R q)) es ≡ None
      absent same = ap (λ (k : K). lookup (is_at (R k)) es) same ∙ absent_behind e.0 es (sorted_first R e.0 (keys_of es) sorted)

      here : q ≡ e.0 → cond (gone e.0) None (read e.1) ≡ cond (gone q) None (read e.1)
      here same = ap (λ (k : K). cond (gone k) None (read e.1)) (sym same)

      by : (at : Bool) → is_at (R q) e.0 ≡ at → (b : Bool) → r.0 ≡ b
          → option_and_then read (lookup (is_at (R q)) r.3) ≡ cond (gone q) None (option_and_then read (lookup (is_at (R q)) es))
          → option_and_then read (lookup (is_at (R q)) (cond b ((e.0, r.1) ∷ r.3) r.3)) ≡ cond (gone q) None (option_and_then read (cond at (Some e.1) (lookup (is_at (R q)) es)))
      by true at true is later = passed true at ∙ did.0 is ∙ here (tells_apart exact q e.0 at)
      by true at false is later =
          later ∙ ap (λ (o : Option X). cond (gone q) None (option_and_then read o)) (absent (tells_apart exact q e.0 at)) ∙ none_either (gone q)
          ∙ sym (did.1 is) ∙ here (tells_apart exact q e.0 at)
      by false at true is later = passed false at ∙ later
      by false at false is later = later
