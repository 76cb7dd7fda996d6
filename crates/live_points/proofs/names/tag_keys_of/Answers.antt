-- The keys that were found are sorted, and each stands once.
use Rattle.std.proofs.Common.{ℕ, List, sym, subst}
use Rattle.std.specs.Prelude.{nat_eq, Bool}
use Rattle.std.specs.Cmp.Lexicographic.{pointwise, nat_list_eq_equiv, nat_list_cmp_total, texts_ties}
use Rattle.std.specs.List.{Contains}
use Rattle.std.specs.List.Sorted.{IsStrictlySortedBy}
use Rattle.std.proofs.lemmas.List.Filters.{dedup_is}
use Rattle.std.proofs.lemmas.List.Kept.{IsStrictlySortedBy-dedup, Contains-dedup, Contains-from_dedup}
use Rattle.std.proofs.lemmas.List.Sorted.{Contains-permutation, IsPermutation-sym}
use Rattle.std.proofs.lemmas.Slice.Eq.{bytes_eq-Decides}
use Rattle.store_trait.specs.Slots.{text_cmp}
use Rattle.store_trait.proofs.TagLemmas.{keys-found, found-keys}
use Rattle.live_points.specs.Listed.{listed, whole}
use Rattle.live_points.proofs.ListedLemmas.{listed_texts}
use Rattle.live_points.proofs.names.tag_keys_of.Goals as goal

abbrev same : List ℕ → List ℕ → Bool
same = pointwise nat_eq

pub returns-clause-ascend : goal.returns-clause-ascend
returns-clause-ascend c =
    let sorted = c.sort_unstable.new.self.items in
    let once = dedup_is same sorted c.dedup.new.self.items c.dedup.ensures.filtered in
    subst (λ (ks : List (List ℕ)). IsStrictlySortedBy text_cmp ks) (sym once) (IsStrictlySortedBy-dedup nat_list_cmp_total {E = same} texts_ties sorted c.sort_unstable.ensures.sorted)

pub returns-clause-exact : goal.returns-clause-exact
returns-clause-exact c = λ key.
    let found = c.in_ok-found.found.items in
    let sorted = c.sort_unstable.new.self.items in
    let entries = listed c.args.cache.now.runs (whole c.args.need.now) c.args.keys.now.keys in
    let texts = listed_texts c.args.cache.now.runs (whole c.args.need.now) c.args.keys.now.keys c.in_ok-found.ensures.series in
    let once = dedup_is same sorted c.dedup.new.self.items c.dedup.ensures.filtered in
    let moved = c.sort_unstable.ensures.permutation in (
      λ is.
          let in_sorted = Contains-from_dedup same sorted key (subst (λ (ks : List (List ℕ)). Contains ks key) once is) in
          let in_found = Contains-permutation sorted found key (IsPermutation-sym found sorted moved) in_sorted in
          keys-found key entries found c.in_ok-found.ensures.keys texts in_found,
      λ is.
          let in_found = found-keys key entries found c.in_ok-found.ensures.keys is in
          let in_sorted = Contains-permutation found sorted key moved in_found in
          subst (λ (ks : List (List ℕ)). Contains ks key) (sym once) (Contains-dedup nat_list_eq_equiv (λ x y e. (bytes_eq-Decides x y).0 e) sorted key in_sorted),
    )
