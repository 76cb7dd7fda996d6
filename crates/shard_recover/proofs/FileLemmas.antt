-- Which files are there, and runs that add nothing.
use Rattle.std.proofs.Common.{◌≡◌, ℕ, nat_eq, true, List, [], ◌∷◌, ◌||◌, refl, sym, ◌∙◌, arith}
use Rattle.std.proofs.lemmas.Bool.Decides.{nat_tests}
use Rattle.std.specs.FinMap.{keys, contains_key-keys}
use Rattle.std.specs.List.{list_any}
use Rattle.std.specs.Ordering.{nat_cmp, eq_by_cmp}
use Rattle.shard_disk.specs.Crash.{Crashes, Leaves, Same}
use Rattle.shard_disk.specs.Directory.{Directory, IsPresent}
use Rattle.shard_disk.proofs.Runs.{joins}

tests : (number y : ℕ) → nat_eq y number ≡ eq_by_cmp nat_cmp number y
tests number y = grind (arith, nat_tests)

any_of : (number : ℕ) (ks : List ℕ) → list_any (λ y. nat_eq y number) ks ≡ list_any (eq_by_cmp nat_cmp number) ks
any_of number [] = refl
any_of number (k ∷ ks) = λ i. tests number k i || any_of number ks i

-- a file is there where its number is among those of the files
pub present_at : (files : Directory) (number : ℕ) → list_any (λ y. nat_eq y number) (keys files) ≡ true → IsPresent files number
present_at files number there = contains_key-keys files number ∙ sym (any_of number (keys files)) ∙ there

pub among : (files : Directory) (number : ℕ) → IsPresent files number → list_any (λ y. nat_eq y number) (keys files) ≡ true
among files number there = any_of number (keys files) ∙ sym (contains_key-keys files number) ∙ there

-- runs that add nothing, one after another
pub same_then : (old mid new : Crashes) → Leaves Same old mid → Leaves Same mid new → Leaves Same old new
same_then old mid new = joins Same Same Same old mid new (λ d c made. made) (λ d c e first then. then ∙ first)
