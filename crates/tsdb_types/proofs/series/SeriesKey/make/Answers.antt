use Rattle.std.proofs.Common.{List, subst, sym, ◌∙◌, ap, refl, Ordering}
use Rattle.std.proofs.lemmas.Bool.{false≢true}
use Rattle.std.proofs.lemmas.Result.{err_from_is_err_and}
use Rattle.std.specs.Ordering.{ordering_then, nat_cmp}
use Rattle.std.specs.Cmp.Lexicographic.{slice_cmp}
use Rattle.std.specs.List.Sorted.{IsPermutation}
use Rattle.tsdb_types.specs.Series.{Ascend}
use Rattle.tsdb_types.specs.declared.tag.Tag.{Tag}
use Rattle.tsdb_types.proofs.TagLemmas.{ascend_from_differ, differ_from_ascend}
use Rattle.tsdb_types.proofs.series.SeriesKey.make.Goals as goal

pub returns-then-not-ascend-clause-duplicate_tag : goal.returns-then-not-ascend-clause-duplicate_tag
returns-then-not-ascend-clause-duplicate_tag c = (
  λ _ differ.
      let same = subst (λ (t : List Tag). IsPermutation t c.sort_unstable.new.self.items) c.into_vec-tags.ensures c.sort_unstable.ensures.permutation in
      let up = ascend_from_differ _ (λ a b less. ap (λ (o : Ordering). ordering_then o (slice_cmp nat_cmp a.value b.value)) less) c.args.tags c.sort_unstable.new.self.items same c.sort_unstable.ensures.sorted differ in
      false≢true (sym c.if-not-ascend.true ∙ c.ascend.ensures.1 (subst (λ (t : List Tag). Ascend t) (sym c.as_slice.ensures.value) up)),
  λ _. refl,
)

pub returns-in_err-text-clause-duplicate_tag : goal.returns-in_err-text-clause-duplicate_tag
returns-in_err-text-clause-duplicate_tag c =
    let same = subst (λ (t : List Tag). IsPermutation t c.sort_unstable.new.self.items) c.into_vec-tags.ensures c.sort_unstable.ensures.permutation in
    let up = subst (λ (t : List Tag). Ascend t) c.as_slice.ensures.value (c.ascend.ensures.0 c.if-not-ascend.false) in
    let p = err_from_is_err_and c.from_residual.result c.from_residual.ensures.1 in (
      λ is differ. let a = p.1 in let b = p.2 in cc,
      λ not. absurd (not (differ_from_ascend c.args.tags c.sort_unstable.new.self.items same up)),
    )

pub returns-clause-duplicate_tag : goal.returns-clause-duplicate_tag
returns-clause-duplicate_tag c =
    let same = subst (λ (t : List Tag). IsPermutation t c.sort_unstable.new.self.items) c.into_vec-tags.ensures c.sort_unstable.ensures.permutation in
    let up = subst (λ (t : List Tag). Ascend t) c.as_slice.ensures.value (c.ascend.ensures.0 c.if-not-ascend.false) in (
      λ is. absurd cc,
      λ not. absurd (not (differ_from_ascend c.args.tags c.sort_unstable.new.self.items same up)),
    )

pub returns-in_err-key-clause-duplicate_tag : goal.returns-in_err-key-clause-duplicate_tag
returns-in_err-key-clause-duplicate_tag c =
    let same = subst (λ (t : List Tag). IsPermutation t c.sort_unstable.new.self.items) c.into_vec-tags.ensures c.sort_unstable.ensures.permutation in
    let up = subst (λ (t : List Tag). Ascend t) c.as_slice.ensures.value (c.ascend.ensures.0 c.if-not-ascend.false) in
    let p = err_from_is_err_and c.from_residual-in_err-key.result c.from_residual-in_err-key.ensures.1 in (
      λ is differ. let a = p.1 in let b = p.2 in cc,
      λ not. absurd (not (differ_from_ascend c.args.tags c.sort_unstable.new.self.items same up)),
    )
