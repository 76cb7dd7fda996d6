use Rattle.std.proofs.Common.{◌≡◌, ◌+◌, ◌-◌, arith, subst, Some, slice_get, refl}
use Rattle.compact_plan.proofs.MergeLemmas.{newest_is_greatest}
use Rattle.compact_plan.proofs.merged.after_merge.Goals as goal

pub returns : goal.returns
returns c =
    let place : c.min-behind.result - 1 ≡ c.args.group.first + c.args.group.count - 1 = omega (arith, c.saturating_add.ensures, c.min-behind.ensures, c.len.ensures.len, c.requires.within) in
    let last : slice_get c.args.table.now.rows (c.args.group.first + c.args.group.count - 1) ≡ Some c.row-newest.result.now =
    subst (λ i. slice_get c.args.table.now.rows i ≡ Some c.row-newest.result.now) place c.row-newest.ensures in
    record {
      newest = c.row-newest.result.now;
      last = last;
      greatest = newest_is_greatest _ _ _ _ c.len.ensures.table.ascending c.requires.some c.requires.within last;
      generation = refl;
      sequence = c.saturating_add-2.ensures;
      level = omega (arith, c.min.ensures, c.saturating_add-3.ensures);
    }
