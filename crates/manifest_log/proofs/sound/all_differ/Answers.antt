use Rattle.std.proofs.Common.{sym, subst, nat_eq}
use Rattle.std.specs.List.{IsDistinct}
use Rattle.std.specs.List.Sorted.{IsNonDecreasing}
use Rattle.std.proofs.lemmas.List.Sorted.{IsPermutation-sym, IsNonDecreasingBy-from_sort}
use Rattle.manifest_log.proofs.SoundLemmas.{differ_permuted}
use Rattle.manifest_log.proofs.sound.all_differ.Goals as goal

pub ascend-requires : goal.ascend-requires
ascend-requires c = subst IsNonDecreasing (sym c.deref.ensures.value) (IsNonDecreasingBy-from_sort (λ n. n) c.sort.new.self.items c.in_ok-sort.ensures.sorted)

pub returns : goal.returns
returns c =
    let sorted = c.sort.new.self.items in
    let same = c.in_ok-sort.ensures.permutation in
    let here = c.deref.ensures.value in (
      λ is. differ_permuted sorted c.args.numbers.items (IsPermutation-sym c.args.numbers.items sorted same) (subst (IsDistinct nat_eq) here (c.ascend.ensures.0 is)),
      λ once. c.ascend.ensures.1 (subst (IsDistinct nat_eq) (sym here) (differ_permuted c.args.numbers.items sorted same once)),
    )
