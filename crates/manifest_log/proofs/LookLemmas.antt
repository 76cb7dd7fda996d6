-- Which files there are, and what a crash leaves while they are looked at.
use Rattle.std.proofs.Common.{◌≡◌, ℕ, ◌||◌, true, false, List, [], ◌∷◌, refl, sym, ap, ◌∙◌, subst, arith, nat_eq, inl}
use Rattle.std.specs.List.{list_any}
use Rattle.std.specs.Ordering.{nat_cmp, eq_by_cmp}
use Rattle.std.specs.FinMap.{keys, contains_key-keys}
use Rattle.std.proofs.lemmas.Bool.{false≢true}
use Rattle.std.proofs.lemmas.Bool.Decides.{nat_tests}
use Rattle.shard_disk.specs.Directory.{Directory, IsPresent, ChangesAt, MadeOrNot, Appears}
use Rattle.shard_disk.specs.Crash.{Crashes, Leaves, Same}
use Rattle.shard_disk.proofs.Runs.{joins, weakens}

zero_tests : (y : ℕ) → nat_eq y 0 ≡ eq_by_cmp nat_cmp 0 y
zero_tests y = grind (arith, nat_tests)

any_zero : (ks : List ℕ) → list_any (λ y. nat_eq y 0) ks ≡ list_any (eq_by_cmp nat_cmp 0) ks
any_zero [] = refl
any_zero (k ∷ ks) = λ i. zero_tests k i || any_zero ks i

-- file 0 is there where its number is among those of the files
pub present_from : (files : Directory) → list_any (λ y. nat_eq y 0) (keys files) ≡ true → IsPresent files 0
present_from files there = contains_key-keys files 0 ∙ sym (any_zero (keys files)) ∙ there

pub absent_from : (files : Directory) → list_any (λ y. nat_eq y 0) (keys files) ≡ false → IsPresent files 0 → ⊥
absent_from files none there = false≢true (sym none ∙ any_zero (keys files) ∙ sym (contains_key-keys files 0) ∙ there)

-- where there is no file, file 0 isn't there
pub none_there : (files : Directory) → keys files ≡ [] → IsPresent files 0 → ⊥
none_there files none = absent_from files (ap (list_any (λ y. nat_eq y 0)) none)

-- ---- runs that add nothing

pub same_then : (old mid new : Crashes) → Leaves Same old mid → Leaves Same mid new → Leaves Same old new
same_then old mid new first second = joins Same Same Same old mid new (λ d c same. same) (λ d c e one two. two ∙ one) first second

pub stays : (number : ℕ) (bytes : List ℕ) (old new : Crashes) → Leaves Same old new → Leaves (ChangesAt number (MadeOrNot (Appears bytes))) old new
stays number bytes old new run = weakens Same (ChangesAt number (MadeOrNot (Appears bytes))) old new (λ d c now same. subst (ChangesAt number (MadeOrNot (Appears bytes)) d) (sym same) (record { here = inl refl; others = λ n ne. refl })) run

-- a run that adds nothing, and then one that may make a file
pub same_then_made : (number : ℕ) (bytes : List ℕ) (old mid new : Crashes) → Leaves Same old mid → Leaves (ChangesAt number (MadeOrNot (Appears bytes))) mid new → Leaves (ChangesAt number (MadeOrNot (Appears bytes))) old new
same_then_made number bytes old mid new first second =
    joins Same (ChangesAt number (MadeOrNot (Appears bytes))) (ChangesAt number (MadeOrNot (Appears bytes))) old mid new
    (λ d c same. subst (ChangesAt number (MadeOrNot (Appears bytes)) d) (sym same) (record { here = inl refl; others = λ n ne. refl }))
    (λ d c e same made. subst (λ (x : Directory). ChangesAt number (MadeOrNot (Appears bytes)) x e) same made) first second
