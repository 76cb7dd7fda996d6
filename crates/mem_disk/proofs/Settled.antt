-- A file of which nothing is undetermined is durable.
use Rattle.std.proofs.Common.{◌≡◌, ◌≢◌, ◌⊎◌, inl, inr, ⊎_elim, ℕ, List, [], ◌∷◌, Bool, true, false, cond, eqb, eq-eqb, refl, sym, ◌∙◌, ap, subst, arith, Option}
use Rattle.std.specs.Prelude.{reverse, IsSome}
use Rattle.std.specs.declared.option.Option.TheVariants.{None, Some}
use Rattle.std.proofs.lemmas.Bool.{cases_eq, false≢true}
use Rattle.std.proofs.lemmas.Bool.Decides.{nat_tests}
use Rattle.std.specs.FinMap.{get, get-empty}
use Rattle.std.specs.Ordering.{nat_cmp}
use Rattle.shard_disk.specs.Directory.{Directory}
use Rattle.shard_disk.specs.Crash.{IsDurable}
use Rattle.shard_disk.proofs.Steps.{get_inserted, get_inserted_other, get_removed, get_removed_other}
use Rattle.mem_disk.specs.declared.change.Change.{Change}
use Rattle.mem_disk.specs.declared.change.Change.TheVariants.{Added, Offered, Wrote, Tore, Synced, Removed, Condemned}
use Rattle.mem_disk.specs.History.{leaves, reads, settled, crashes_of, written}

absent : {A : Type 0} (o : Option (List ℕ)) → o ≡ None → IsSome o → A
absent o is present = absurd (false≢true (subst (λ (x : Option (List ℕ)). IsSome x) is present))

-- a test of two numbers, by whether they are one
pub test_same : (a b : ℕ) → a ≡ b → eqb a b ≡ true
test_same a b is = eq-eqb a b is

pub test_apart : (a b : ℕ) → a ≢ b → eqb a b ≡ false
test_apart a b apart = grind (arith, nat_tests)

-- where the numbers are one, the file was left undetermined
undetermined : {A : Type 0} (a b : ℕ) (rest : Bool) → a ≡ b → cond (eqb a b) false rest ≡ true → A
undetermined a b rest same is = absurd (false≢true (sym (ap (λ (t : Bool). cond t false rest) (test_same a b same)) ∙ is))

-- where they aren't, it is as it was before
before_it : (a b : ℕ) (answer rest : Bool) → a ≢ b → cond (eqb a b) answer rest ≡ true → rest ≡ true
before_it a b answer rest apart is = sym (ap (λ (t : Bool). cond t answer rest) (test_apart a b apart)) ∙ is

flip : (a b : ℕ) → a ≢ b → b ≢ a
flip a b apart is = apart (sym is)

pub written_other : (number at : ℕ) (bytes : List ℕ) (file : Option (List ℕ)) (files : Directory) (n : ℕ) → n ≢ number → get (written file at bytes files number) n ≡ get files n
written_other number at bytes None files n apart = refl
written_other number at bytes (Some file) files n apart = get_inserted_other files number _ n apart

abbrev Determined : ℕ → Directory → Directory → Type 0
Determined n files c = (get c n ≡ None) ⊎ (get c n ≡ get files n)

-- a step that leaves this file alone, as it reads and as a crash leaves it
alone : (n : ℕ) (files files' d c : Directory) → get files' n ≡ get files n → get c n ≡ get d n → Determined n files d → Determined n files' c
alone n files files' d c kept same was = ⊎_elim (λ gone. inl (same ∙ gone)) (λ there. inr (same ∙ there ∙ sym kept)) was

still_there : (n : ℕ) (files files' : Directory) → get files' n ≡ get files n → IsSome (get files' n) → IsSome (get files n)
still_there n files files' kept is = subst (λ (o : Option (List ℕ)). IsSome o) kept is

pub determined : (past : List Change) (n : ℕ) → settled n past ≡ true → IsSome (get (reads past) n) → (c : Directory) → leaves past c → (get c n ≡ None) ⊎ (get c n ≡ get (reads past) n)
determined [] n is present c left = absent _ (get-empty nat_cmp n) present
determined (Added number bytes ∷ past) n is present c left = elim (cases_eq number n) [
  | inl same ↦ inr (subst (λ (k : ℕ). get c k ≡ get (reads (Added number bytes ∷ past)) k) same (left.2.here ∙ sym (get_inserted (reads past) number bytes.items)))
  | inr apart ↦
      let kept = get_inserted_other (reads past) number bytes.items n (flip number n apart) in
      alone n (reads past) (reads (Added number bytes ∷ past)) left.0 c kept (left.2.others n (flip number n apart))
      (determined past n (before_it number n true (settled n past) apart is) (still_there n (reads past) (reads (Added number bytes ∷ past)) kept present) left.0 left.1)
]
determined (Offered number bytes ∷ past) n is present c left = elim (cases_eq number n) [
  | inl same ↦ undetermined number n (settled n past) same is
  | inr apart ↦ alone n (reads past) (reads past) left.0 c refl (left.2.others n (flip number n apart)) (determined past n (before_it number n false (settled n past) apart is) present left.0 left.1)
]
determined (Wrote number at bytes ∷ past) n is present c left = elim (cases_eq number n) [
  | inl same ↦ undetermined number n (settled n past) same is
  | inr apart ↦
      let kept = written_other number at bytes.items (get (reads past) number) (reads past) n (flip number n apart) in
      alone n (reads past) (reads (Wrote number at bytes ∷ past)) left.0 c kept (left.2.others n (flip number n apart))
      (determined past n (before_it number n false (settled n past) apart is) (still_there n (reads past) (reads (Wrote number at bytes ∷ past)) kept present) left.0 left.1)
]
determined (Tore number at m ∷ past) n is present c left = elim (cases_eq number n) [
  | inl same ↦ undetermined number n (settled n past) same is
  | inr apart ↦ alone n (reads past) (reads past) left.0 c refl (left.2.others n (flip number n apart)) (determined past n (before_it number n false (settled n past) apart is) present left.0 left.1)
]
determined (Synced number ∷ past) n is present c left = elim (cases_eq number n) [
  | inl same ↦ subst (λ (k : ℕ). (get c k ≡ None) ⊎ (get c k ≡ get (reads past) k)) same left.1
  | inr apart ↦ determined past n (before_it number n true (settled n past) apart is) present c left.0
]
determined (Removed number ∷ past) n is present c left = elim (cases_eq number n) [
  | inl same ↦ absent _ (subst (λ (k : ℕ). get (reads (Removed number ∷ past)) k ≡ None) same (get_removed (reads past) number)) present
  | inr apart ↦
      let kept = get_removed_other (reads past) number n (flip number n apart) in
      alone n (reads past) (reads (Removed number ∷ past)) left.0 c kept (left.2.others n (flip number n apart))
      (determined past n is (still_there n (reads past) (reads (Removed number ∷ past)) kept present) left.0 left.1)
]
determined (Condemned number ∷ past) n is present c left = elim (cases_eq number n) [
  | inl same ↦ ⊎_elim
      (λ kept. alone n (reads past) (reads past) left.0 c refl (subst (λ (k : ℕ). get c k ≡ get left.0 k) same kept) (determined past n is present left.0 left.1))
      (λ gone. inl (subst (λ (k : ℕ). get c k ≡ None) same gone))
      left.2.here
  | inr apart ↦ alone n (reads past) (reads past) left.0 c refl (left.2.others n (flip number n apart)) (determined past n is present left.0 left.1)
]

-- what a crash now leaves of it is as it reads
pub settled_durable : (changes : List Change) (n : ℕ) → settled n (reverse changes) ≡ true → IsSome (get (reads (reverse changes)) n) → IsDurable (reads (reverse changes)) (crashes_of changes) n
unfolding crashes_of
settled_durable changes n is present c now = determined (reverse changes) n is present c now
