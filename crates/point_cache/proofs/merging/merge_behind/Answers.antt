use Rattle.std.proofs.Common.{List, length, sym, subst, arith}
use Rattle.std.proofs.lemmas.List.{take_all}
use Rattle.point_model.specs.Rows.{Row}
use Rattle.point_cache.specs.Cached.{AreAscending}
use Rattle.point_cache.specs.Merged.{IsUnion}
use Rattle.point_cache.proofs.MergeLemmas.{ascending-drop, first_least, no_first, union_behind, union_none}
use Rattle.point_cache.proofs.merging.merge_behind.Goals as goal

pub merge-requires-clause-held : goal.merge-requires-clause-held
merge-requires-clause-held c = subst AreAscending (sym c.split_at.ensures.back) (ascending-drop c.before-place.result c.args.kept.now c.requires.kept)

pub returns-in_default-clause-union : goal.returns-in_default-clause-union
returns-in_default-clause-union c =
    let kept = c.args.kept.now in
    union_none kept c.args.batch.now c.clear.new.self.items (length kept) c.requires.kept (no_first c.args.batch.now (sym c.in_default.ensures.value)) c.clear.ensures.items (take_all (length kept) kept (omega arith))

pub returns-clause-union : goal.returns-clause-union
returns-clause-union c =
    let kept = c.args.kept.now in
    let batch = c.args.batch.now in
    union_behind kept batch c.merge.new.merged.items c.before-place.result c.in-Some.first.now.0 c.before-place.ensures.bound c.requires.kept c.before-place.ensures.before c.before-place.ensures.behind
    (first_least batch c.in-Some.first.now (sym c.in-Some.ensures.value) c.requires.batch)
    (subst (λ (l : List Row). IsUnion l batch c.merge.new.merged.items) c.split_at.ensures.back c.in_ok-merge.ensures)
