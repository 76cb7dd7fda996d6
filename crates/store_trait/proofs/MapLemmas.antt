-- Look-ups in maps of maps, where the value at one key is changed or a key is added.
use Rattle.std.proofs.Common.{◌≡◌, Bool, true, false, cond, ◌&&◌, [], Option, Some, None, is_some, refl, sym, ap, subst, subst₂, ◌∙◌, ⊎_elim, BTreeMap, option_and_then, Ordering}
use Rattle.std.proofs.lemmas.Bool.{cases_Bool, cond-true, cond-false, false≢true}
use Rattle.std.proofs.lemmas.Map.Lookups.{CmpEqualImpliesEq}
use Rattle.std.proofs.lemmas.Map.Views.{tells_apart}
use Rattle.std.specs.BTreeMap.{get, is_at}
use Rattle.std.specs.Map.{lookup}
use Rattle.tsdb_types.specs.declared.value.Value.{Value}
use Rattle.store_trait.specs.Slots.{held, Stays}

pub stays_same : (slot : Option (Option Value)) → Stays slot slot
stays_same slot = record { same = refl; there = λ i. i }

pub stays_then : (a b c : Option (Option Value)) → Stays a b → Stays b c → Stays a c
stays_then a b c first second = record { same = second.same ∙ first.same; there = λ i. second.there (first.there i) }

-- a slot where there was none holds nothing
pub stays_added : (old new : Option (Option Value)) → old ≡ None → held new ≡ None → Stays old new
stays_added None new e h = record { same = h; there = λ i. absurd (false≢true i) }
stays_added (Some slot) new e h = absurd (false≢true (sym (ap is_some e)))

pub none_there : {X : Type 0} (o : Option X) → is_some o ≡ false → o ≡ None
none_there None e = refl
none_there (Some x) e = absurd (false≢true (sym e))

module _ {K X : Type 0} {R : K → K → Ordering} (exact : CmpEqualImpliesEq R) (m n : BTreeMap K X) (k : K) (x' : X)
    (is : (q : K) → get R n q ≡ cond (is_at (R k) q) (Some x') (get R m q)) where
  found : (q : K) → is_at (R k) q ≡ true → get R n q ≡ Some x'
  found q e = is q ∙ cond-true (is_at (R k) q) (Some x') (get R m q) e

  other : (q : K) → is_at (R k) q ≡ false → get R n q ≡ get R m q
  other q e = is q ∙ cond-false (is_at (R k) q) (Some x') (get R m q) e

  was_at : (o : Option X) → get R m k ≡ o → (q : K) → is_at (R k) q ≡ true → get R m q ≡ o
  was_at o e q t = ap (λ (z : K). get R m z) (sym (tells_apart exact k q t)) ∙ e

  -- the slots behind a key whose value is changed, where those of the value stay
  pub level_stays : (x : X) → get R m k ≡ Some x → (read : X → Option (Option Value)) → Stays (read x) (read x')
      → (q : K) → Stays (option_and_then read (get R m q)) (option_and_then read (get R n q))
  level_stays x was read h q =
      ⊎_elim
      (λ (e : is_at (R k) q ≡ true). subst₂ Stays (sym (ap (option_and_then read) (was_at (Some x) was q e))) (sym (ap (option_and_then read) (found q e))) h)
      (λ (e : is_at (R k) q ≡ false). subst (λ (s : Option (Option Value)). Stays (option_and_then read (get R m q)) s) (sym (ap (option_and_then read) (other q e))) (stays_same _))
      (cases_Bool (is_at (R k) q))

  -- the same where the key is added, with a value that has none
  pub level_added : get R m k ≡ None → (read : X → Option (Option Value)) → held (read x') ≡ None
      → (q : K) → Stays (option_and_then read (get R m q)) (option_and_then read (get R n q))
  level_added absent read h q =
      ⊎_elim
      (λ (e : is_at (R k) q ≡ true). stays_added _ _ (ap (option_and_then read) (was_at None absent q e)) (ap (λ (o : Option X). held (option_and_then read o)) (found q e) ∙ h))
      (λ (e : is_at (R k) q ≡ false). subst (λ (s : Option (Option Value)). Stays (option_and_then read (get R m q)) s) (sym (ap (option_and_then read) (other q e))) (stays_same _))
      (cases_Bool (is_at (R k) q))

  -- what is read behind a key whose value is changed, where of the value one place is set
  pub level_set : {Y : Type 0} (x : X) → get R m k ≡ Some x → (read : X → Option Y) (test : Bool) (v : Option Y) → read x' ≡ cond test v (read x)
      → (q : K) → option_and_then read (get R n q) ≡ cond (is_at (R k) q && test) v (option_and_then read (get R m q))
  level_set {Y} x was read test v h q = by (is_at (R k) q) refl
    where
      by : (b : Bool) → is_at (R k) q ≡ b → option_and_then read (get R n q) ≡ cond (b && test) v (option_and_then read (get R m q))
      by true e = ap (option_and_then read) (found q e) ∙ h ∙ ap (λ (o : Option Y). cond test v o) (sym (ap (option_and_then read) (was_at (Some x) was q e)))
      by false e = ap (option_and_then read) (other q e)

-- a slot that is added, vacant
pub level_added_slot : {K : Type 0} {R : K → K → Ordering} → CmpEqualImpliesEq R → (m n : BTreeMap K (Option Value)) (k : K) (x' : Option Value)
    → ((q : K) → get R n q ≡ cond (is_at (R k) q) (Some x') (get R m q)) → get R m k ≡ None → x' ≡ None → (q : K) → Stays (get R m q) (get R n q)
level_added_slot {K} {R} exact m n k x' is absent vacant q =
    ⊎_elim
    (λ (e : is_at (R k) q ≡ true). stays_added _ _ (was_at exact m n k x' is None absent q e) (ap held (found exact m n k x' is q e) ∙ vacant))
    (λ (e : is_at (R k) q ≡ false). subst (λ (s : Option (Option Value)). Stays (get R m q) s) (sym (other exact m n k x' is q e)) (stays_same _))
    (cases_Bool (is_at (R k) q))

-- a map without entries has nothing
pub nothing_in : {K X : Type 0} (R : K → K → Ordering) (m : BTreeMap K X) → m.entries ≡ [] → (q : K) → get R m q ≡ None
nothing_in R m e q = ap (λ es. lookup (is_at (R q)) es) e

-- a key that is added with a map without entries
pub level_added_map : {K X L : Type 0} {R : K → K → Ordering} (S : L → L → Ordering) → CmpEqualImpliesEq R → (m n : BTreeMap K (BTreeMap L X)) (k : K) (x' : BTreeMap L X)
    → ((q : K) → get R n q ≡ cond (is_at (R k) q) (Some x') (get R m q)) → get R m k ≡ None → x'.entries ≡ []
    → (l : L) (read : X → Option (Option Value)) (q : K)
    → Stays (option_and_then (λ (y : BTreeMap L X). option_and_then read (get S y l)) (get R m q)) (option_and_then (λ (y : BTreeMap L X). option_and_then read (get S y l)) (get R n q))
level_added_map {K} {X} {L} {R} S exact m n k x' is absent empty l read q =
    level_added exact m n k x' is absent (λ (y : BTreeMap L X). option_and_then read (get S y l))
    (ap (λ (o : Option X). held (option_and_then read o)) (nothing_in S x' empty l)) q

-- what is read behind a key that is added, with a value in which nothing is found
pub level_new : {K X Y : Type 0} {R : K → K → Ordering} → CmpEqualImpliesEq R → (m n : BTreeMap K X) (k : K) (x' : X)
    → ((q : K) → get R n q ≡ cond (is_at (R k) q) (Some x') (get R m q)) → get R m k ≡ None → (read : X → Option Y) → read x' ≡ None
    → (q : K) → option_and_then read (get R n q) ≡ option_and_then read (get R m q)
level_new {K} {X} {Y} {R} exact m n k x' is absent read h q =
    ⊎_elim
    (λ (e : is_at (R k) q ≡ true). ap (option_and_then read) (found exact m n k x' is q e) ∙ h ∙ sym (ap (option_and_then read) (was_at exact m n k x' is None absent q e)))
    (λ (e : is_at (R k) q ≡ false). ap (option_and_then read) (other exact m n k x' is q e))
    (cases_Bool (is_at (R k) q))

-- what is read behind a key whose value is changed, where of the value the same is read
pub level_keeps : {K X Y : Type 0} {R : K → K → Ordering} → CmpEqualImpliesEq R → (m n : BTreeMap K X) (k : K) (x x' : X)
    → ((q : K) → get R n q ≡ cond (is_at (R k) q) (Some x') (get R m q)) → get R m k ≡ Some x → (read : X → Option Y) → read x' ≡ read x
    → (q : K) → option_and_then read (get R n q) ≡ option_and_then read (get R m q)
level_keeps {K} {X} {Y} {R} exact m n k x x' is was read h q =
    ⊎_elim
    (λ (e : is_at (R k) q ≡ true). ap (option_and_then read) (found exact m n k x' is q e) ∙ h ∙ sym (ap (option_and_then read) (was_at exact m n k x' is (Some x) was q e)))
    (λ (e : is_at (R k) q ≡ false). ap (option_and_then read) (other exact m n k x' is q e))
    (cases_Bool (is_at (R k) q))
