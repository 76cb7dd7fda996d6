-- What is above the numbers of names so far is above those of all in the end.
use Rattle.std.proofs.Common.{◌≡◌, ℕ, ◌+◌, ◌<◌, ◌≤◌, List, length, take, get_or, All, arith, subst, sym, suc}
use Rattle.std.proofs.lemmas.List.{take_all}
use Rattle.std.proofs.lemmas.List.Elements.{All-push}
use Rattle.std.proofs.Math.Seq.{take-suc}
use Rattle.host_disk.specs.Numbers.{IsBelow}
use Rattle.host_disk.specs.declared.name.Name.{Name}
use Rattle.host_disk.specs.declared.name.Name.TheVariants.{File, Unfinished}

pub below_later : (name : Name) (a b : ℕ) → a ≤ b → IsBelow a name → IsBelow b name
below_later (File n) a b le below = omega (arith, le, below)
below_later (Unfinished n) a b le below = below

pub below_one_more : (names : List Name) (i a b : ℕ) → i < length names → a ≤ b → All (IsBelow a) (take i names)
    → IsBelow b (get_or names i (File 0)) → All (IsBelow b) (take (i + 1) names)
below_one_more names i a b lt le all here =
    let pushed = All-push (IsBelow b) (take i names) (get_or names i (File 0)) (λ k d kl. below_later _ a b le (all k d kl)) here in
    let e : i + 1 ≡ suc i = omega arith in
    subst (λ n. All (IsBelow b) (take n names)) (sym e) (subst (All (IsBelow b)) (sym (take-suc names i (File 0) lt)) pushed)

pub below_all : (names : List Name) (i b : ℕ) → length names ≤ i → All (IsBelow b) (take i names) → All (IsBelow b) names
below_all names i b le all = subst (All (IsBelow b)) (take_all i names le) all
