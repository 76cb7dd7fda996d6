use Rattle.std.proofs.Common.{refl, sym, subst}
use Rattle.point_cache.specs.Cached.{AreAscending}
use Rattle.point_cache.proofs.MergeLemmas.{ascending-drop, puts_behind}
use Rattle.point_cache.proofs.merging.put_behind.Goals as goal

pub count_before-ahead-requires : goal.count_before-ahead-requires
count_before-ahead-requires c = subst AreAscending (sym c.split_at.ensures.back) (ascending-drop c.args.from c.args.held.now c.requires.held)

pub count_at-requires-clause-ascending : goal.count_at-requires-clause-ascending
count_at-requires-clause-ascending c =
    let rest = subst AreAscending (sym c.split_at.ensures.back) (ascending-drop c.args.from c.args.held.now c.requires.held) in
    subst AreAscending (sym c.split_at-2.ensures.back) (ascending-drop c.count_before-ahead.result c.split_at.result.1.now rest)

pub returns-clause-puts : goal.returns-clause-puts
returns-clause-puts c =
    puts_behind c.args.held.now c.args.from c.count_before-ahead.result c.count_at.result _ c.args.point
    c.split_at.result.1.now c.split_at-2.result.0.now c.split_at-2.result.1.now c.args.merged.now.items c.append.new.merged.items
    c.split_at.ensures.back c.split_at-2.ensures.front c.split_at-2.ensures.back refl c.count_before-ahead.ensures.before c.count_at.ensures.equal c.count_at.ensures.later c.in_ok-append.ensures
