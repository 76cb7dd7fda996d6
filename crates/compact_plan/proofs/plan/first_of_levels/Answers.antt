use Rattle.std.proofs.Common.{◌≡◌, arith, subst, ⊎_elim}
use Rattle.std.proofs.lemmas.Bool.{cases_lt}
use Rattle.compact_plan.specs.Plans.{BeginsGroup}
use Rattle.compact_plan.proofs.plan.first_of_levels.Goals as goal

pub loop-level-init : goal.loop-level-init
loop-level-init c = λ lower from below. absurd (omega arith)

pub loop-level-preserved : goal.loop-level-preserved
loop-level-preserved c = λ lower from below place group. ⊎_elim
    (λ less. c.loop-level.invariant lower from less place group)
    (λ more. let same : lower ≡ c.loop-level.level = omega arith in
    c.in_default.ensures.none place (subst (λ l. BeginsGroup c.args.table.now.rows l place) same group))
    (cases_lt lower c.loop-level.level)

pub returns-in-Some : goal.returns-in-Some
returns-in-Some c = record {
  level = c.loop-level.level;
  from = omega (arith, c.loop-level.auto.level);
  to = omega (arith, c.loop-level-test.true);
  count = c.size_at_level.ensures;
  begins = c.in-Some.ensures.begins;
  none_earlier = c.in-Some.ensures.first;
  none_lower = c.loop-level.invariant;
}

pub returns : goal.returns
returns c = λ level from to place. c.loop-level.invariant level from (omega arith) place
